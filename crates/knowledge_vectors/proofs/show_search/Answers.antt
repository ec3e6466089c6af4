-- `knowledge_vectors::show_search` meets its contract: the places that a search gives are in order, and not past the run's end. Assumes nothing.
use Prim.Native.Nat.{suc, ◌-◌}
use mathlib.Core.Path.{◌≡◌}
use native.Mathlib.Omega.{arith}
use lib.ListN.{length}
use Rattle.knowledge.proofs.Nearest.{in_order}
use Rattle.knowledge_vectors.proofs.show_search.Goals as goal

pub show_found-requires : goal.show_found-requires
show_found-requires g c =
    let n = length c.args.run.now in
    let last : suc (n - 1) ≡ n = omega arith in
    let r = in_order _ (n - 1) _ c.search_outwards-found.result (omega arith) (c.search_outwards-found.ensures (n - 1) last) in
    (omega (arith, r.0), omega (arith, r.1))
