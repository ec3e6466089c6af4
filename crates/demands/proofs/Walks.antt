-- Takes of byte strings one by one: some are taken, and behind them comes nothing or one that is refused. This settles how many are taken, what they
-- mean and which state they leave, since a refused take leaves the state as it was.
use Rattle.std.specs.Prelude.{ℕ, ◌+◌, ◌≤◌, ◌<◌, ◌≡◌, refl, ◌⊎◌, ◌↔◌, List, [], ◌∷◌, ◌++◌, map, length, take, Err, Ok}
use Rattle.std.proofs.Common.{add-zero, arith, sym, ap, ap₂, ◌∙◌, inl, inr, append-nil, append_assoc}
use Rattle.std.proofs.lemmas.List.{map-append}
use Rattle.std.proofs.Math.Seq.{take-append-add}
use Rattle.refusal.specs.declared.Refusal.{Refusal}
use Rattle.logic.proofs.Bools.{both}
use Rattle.policy.specs.Format.{policy_of}
use Rattle.policy.proofs.Answered.{causes as policy_causes}
use Rattle.message.specs.Fixes.{meaning_of}
use Rattle.message.specs.declared.Message.{Message}
use Rattle.knowledge.specs.Knowledge.{stored, sound, free, admits}
use Rattle.knowledge.proofs.Laws.{sound_law}
use Rattle.knowledge.proofs.Store.{store_long}
use Rattle.monitor.specs.State.{Received}
use Rattle.monitor.specs.State.{State, receive, PacketOutcome, take_each, Call, Receive, step, run_calls, Taken, took, accepted_by, accepted_from, if_taken, offers_each}
use Rattle.monitor.specs.Demands.{sizes_of, Sheets, Passed, EachTaken, bytes_in}
use Rattle.monitor.proofs.Laws.{knowledge_sized, over_sized}
use Rattle.monitor.proofs.Leaves.{stops, goes_on}
use Rattle.demands.proofs.Runs.{run_append}
use Rattle.demands.proofs.Proved.{ranged, demand_1, demand_2, left}

all_of : (a : Received) → Taken a → (cs : List Call) → if_taken a cs ≡ cs
all_of (Ok n) t cs = refl
all_of (Err r) t cs = absurd t

module _ (s : List ℕ) where
  pub accepted_append : (cs ds : List Call) (x : State) → accepted_from s x (cs ++ ds) ≡ accepted_from s x cs ++ accepted_from s (run_calls s x cs) ds
  accepted_append [] ds x = refl
  accepted_append (c ∷ cs) ds x =
      let y = (step s x c).state in
      ap (λ (l : List Message). accepted_by s x c ++ l) (accepted_append cs ds y)
      ∙ sym (append_assoc (accepted_by s x c) (accepted_from s y cs) (accepted_from s (run_calls s y cs) ds))

  -- ---- one take

  pub answers : (x : State) (m : List ℕ) → Taken (receive s x m).answer ⊎ ((r : Refusal) × ((receive s x m).answer ≡ Err r))
  answers x m = go (receive s x m).answer refl
    where
      go : (a : Received) → (receive s x m).answer ≡ a → Taken (receive s x m).answer ⊎ ((r : Refusal) × ((receive s x m).answer ≡ Err r))
      go (Ok n) e = inl (rw e tt)
      go (Err r) e = inr (r, e)

  -- a take that is accepted took its message; a refused one took none and leaves the state
  took_one : (x : State) (m : List ℕ) → Taken (receive s x m).answer → took (receive s x m).answer m ≡ meaning_of m ∷ []
  took_one x m t = rw (left s x m t).answer

  pub kept : (x : State) (m : List ℕ) (r : Refusal) → (receive s x m).answer ≡ Err r → (receive s x m).state ≡ x
  kept x m r e = (demand_1.take s x m).unwritten r e

  -- ---- byte strings that are all taken

  pub each_before : (before : List (List ℕ)) (x : State) → EachTaken s x before → (n at : ℕ) (rest : List (List ℕ))
      → take_each s x n at (before ++ rest) ≡ take_each s (run_calls s x (map Receive before)) (n + length before) (at + bytes_in before) rest
  each_before [] x t n at rest = rw (add-zero n, add-zero at)
  each_before (m ∷ ms) x t n at rest =
      goes_on s x m (ms ++ rest) n at t.0
      ∙ each_before ms (receive s x m).state t.1 (n + 1) (at + length m) rest
      ∙ ap₂ (λ (i j : ℕ). take_each s (run_calls s (receive s x m).state (map Receive ms)) i j rest) (omega arith) (omega arith)

  pub offers_before : (before : List (List ℕ)) (x : State) → EachTaken s x before → (rest : List (List ℕ))
      → offers_each s x (before ++ rest) ≡ map Receive before ++ offers_each s (run_calls s x (map Receive before)) rest
  offers_before [] x t rest = refl
  offers_before (m ∷ ms) x t rest =
      ap (λ (cs : List Call). Receive m ∷ cs) (all_of (receive s x m).answer t.0 _ ∙ offers_before ms (receive s x m).state t.1 rest)

  pub accepted_each : (before : List (List ℕ)) (x : State) → EachTaken s x before → accepted_from s x (map Receive before) ≡ map meaning_of before
  accepted_each [] x t = refl
  accepted_each (m ∷ ms) x t = ap₂ (λ (a b : List Message). a ++ b) (took_one x m t.0) (accepted_each ms (receive s x m).state t.1)

  -- ---- what comes behind them

  pub data Rest (y : State) : List (List ℕ) → Type 0 where
    none_left : Rest y []
    halted : (m : List ℕ) (behind : List (List ℕ)) (r : Refusal) → (receive s y m).answer ≡ Err r → Rest y (m ∷ behind)

  rest_state : {y : State} {l : List (List ℕ)} → Rest y l → run_calls s y (offers_each s y l) ≡ y
  rest_state none_left = refl
  rest_state {y} (halted m behind r e) = rw e (kept y m r e)

  rest_accepted : {y : State} {l : List (List ℕ)} → Rest y l → accepted_from s y (offers_each s y l) ≡ []
  rest_accepted none_left = refl
  rest_accepted {y} (halted m behind r e) = rw e

  rest_offers : {y : State} {l : List (List ℕ)} → Rest y l → offers_each s y l ≡ map Receive (take 1 l)
  rest_offers none_left = refl
  rest_offers {y} (halted m behind r e) = rw e

  rest_outcome : {y : State} {l : List (List ℕ)} → Rest y l → (n at : ℕ) → ((take_each s y n at l).answer.taken ≡ n) × ((take_each s y n at l).state ≡ y)
  rest_outcome none_left n at = (refl, refl)
  rest_outcome {y} (halted m behind r e) n at = rw (stops s y m behind n at r e) (refl, kept y m r e)

  pub record Walk (x : State) (ms : List (List ℕ)) : Type 0 where
    pub went : List (List ℕ)
    pub left : List (List ℕ)
    pub whole : ms ≡ went ++ left
    pub each : EachTaken s x went
    pub rest : Rest (run_calls s x (map Receive went)) left

  pub walk : (ms : List (List ℕ)) (x : State) → Walk x ms
  walk [] x = record { went = []; left = []; whole = refl; each = tt; rest = none_left }
  walk (m ∷ ms) x = go (walk ms (receive s x m).state) (answers x m)
    where
      go : Walk (receive s x m).state ms → Taken (receive s x m).answer ⊎ ((r : Refusal) × ((receive s x m).answer ≡ Err r)) → Walk x (m ∷ ms)
      go w (inl t) = record { went = m ∷ w.went; left = w.left; whole = ap (λ (l : List (List ℕ)). m ∷ l) w.whole; each = (t, w.each); rest = w.rest }
      go w (inr q) = record { went = []; left = m ∷ ms; whole = refl; each = tt; rest = halted m ms q.0 q.1 }

  module _ (ms : List (List ℕ)) (x : State) (w : Walk x ms) where
    abbrev end : State
    end = run_calls s x (map Receive w.went)

    walk_outcome : (n at : ℕ) → take_each s x n at ms ≡ take_each s end (n + length w.went) (at + bytes_in w.went) w.left
    walk_outcome n at = ap (take_each s x n at) w.whole ∙ each_before w.went x w.each n at w.left

    pub walk_taken : (n at : ℕ) → (take_each s x n at ms).answer.taken ≡ n + length w.went
    walk_taken n at = rw (walk_outcome n at) (rest_outcome w.rest _ _).0

    pub walk_state : (n at : ℕ) → (take_each s x n at ms).state ≡ end
    walk_state n at = rw (walk_outcome n at) (rest_outcome w.rest _ _).1

    walk_offers : offers_each s x ms ≡ map Receive w.went ++ offers_each s end w.left
    walk_offers = ap (offers_each s x) w.whole ∙ offers_before w.went x w.each w.left

    -- they are the takes of those that went and of the one behind them
    pub walk_offered : offers_each s x ms ≡ map Receive (take (length w.went + 1) ms)
    walk_offered =
        walk_offers ∙ ap (λ (cs : List Call). map Receive w.went ++ cs) (rest_offers w.rest)
        ∙ sym (map-append Receive w.went (take 1 w.left))
        ∙ ap (map Receive) (sym (ap (take (length w.went + 1)) w.whole ∙ take-append-add w.went w.left 1))

    pub walk_run : run_calls s x (offers_each s x ms) ≡ end
    walk_run = ap (run_calls s x) walk_offers ∙ run_append s (map Receive w.went) _ x ∙ rest_state w.rest

    pub walk_accepted : accepted_from s x (offers_each s x ms) ≡ map meaning_of w.went
    walk_accepted =
        ap (accepted_from s x) walk_offers ∙ accepted_append (map Receive w.went) _ x
        ∙ ap₂ (λ (a b : List Message). a ++ b) (accepted_each w.went x w.each) (rest_accepted w.rest) ∙ append-nil (map meaning_of w.went)

  -- ---- what the number taken tells

  -- so many are taken: each of these is
  pub so_many : (before : List (List ℕ)) (x : State) (n at : ℕ) (rest : List (List ℕ)) → n + length before ≤ (take_each s x n at (before ++ rest)).answer.taken → EachTaken s x before
  so_many [] x n at rest h = tt
  so_many (m ∷ ms) x n at rest h = go (so_many ms (receive s x m).state (n + 1) (at + bytes_in (m ∷ [])) rest) (answers x m)
    where
      go : (n + 1 + length ms ≤ (take_each s (receive s x m).state (n + 1) (at + bytes_in (m ∷ [])) (ms ++ rest)).answer.taken → EachTaken s (receive s x m).state ms)
          → Taken (receive s x m).answer ⊎ ((r : Refusal) × ((receive s x m).answer ≡ Err r)) → EachTaken s x (m ∷ ms)
      go f (inl t) = (t, f (omega (arith, h, ap (λ (o : PacketOutcome). o.answer.taken) (each_before (m ∷ []) x (t, tt) n at (ms ++ rest)))))
      go f (inr q) = let l : n + length (m ∷ ms) ≤ n = rw q.1 at h in absurd (omega arith)

  -- and one more is, exactly where its take is accepted
  pub one_more : (m : List ℕ) (behind : List (List ℕ)) (y : State) (n at : ℕ) → (n < (take_each s y n at (m ∷ behind)).answer.taken) ↔ Taken (receive s y m).answer
  one_more m behind y n at = go (answers y m)
    where
      go : Taken (receive s y m).answer ⊎ ((r : Refusal) × ((receive s y m).answer ≡ Err r)) → (n < (take_each s y n at (m ∷ behind)).answer.taken) ↔ Taken (receive s y m).answer
      go (inl t) =
          let z = (receive s y m).state in
          let e = ap (λ (o : PacketOutcome). o.answer.taken) (each_before (m ∷ []) y (t, tt) n at behind) in
          (λ l. t, λ u. omega (arith, e, walk_taken behind z (walk behind z) (n + 1) (at + bytes_in (m ∷ []))))
      go (inr q) = rw q.1 (λ l. absurd (omega arith), λ u. absurd u)

  -- ---- the checks 1 to 6 and 12, which each take of a packet passes where the first did

  pub passed_on : (x : State) (m : List ℕ) → Taken (receive s x m).answer → Passed s (receive s x m).state
  unfolding admits
  passed_on x m t =
      let q = (demand_1.take s x m).taken.0 t in
      let l = left s x m t in
      let k = stored (sizes_of s) x.known (meaning_of m) in
      let fit = ranged s ((policy_causes s).accepted.1 q.0.policy) m q.1 in
      let long = store_long (sizes_of s) x.known (meaning_of m) (knowledge_sized (policy_of s) q.0.sized.sheets) fit in
      rw l.state (record {
        policy = q.0.policy;
        sized = over_sized (policy_of s) x.origin k q.0.sized.origin long;
        origin = q.0.origin;
        sound = (sound_law (sizes_of s) k).0 (both (free (sizes_of s) x.known (meaning_of m)) (sound (sizes_of s) k) l.tested).1;
      })

  pub passed_each : (ms : List (List ℕ)) (x : State) → Passed s x → EachTaken s x ms → Passed s (run_calls s x (map Receive ms))
  passed_each [] x ok t = ok
  passed_each (m ∷ ms) x ok t = passed_each ms (receive s x m).state (passed_on x m t.0) t.1

  -- and the sheets are the reading, once a message is taken
  pub sheets_each : (ms : List (List ℕ)) (x : State) → Sheets (policy_of s) x → EachTaken s x ms → Sheets (policy_of s) (run_calls s x (map Receive ms))
  sheets_each [] x z t = z
  sheets_each (m ∷ ms) x z t = sheets_each ms (receive s x m).state (demand_2.sheets s x m t.0) t.1
