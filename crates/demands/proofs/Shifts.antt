-- Complete shifts leave no blanks (02, request 8), proved: of a record in the crates reach and completeness, and from there of the sheet and of demand 3's
-- lists. Assumes nothing.
use Rattle.std.specs.Prelude.{ℕ, ◌+◌, ◌<◌, ◌≡◌, refl, ◌≢◌, Ok}
use Rattle.std.proofs.Common.{arith, sym, ap, subst, ◌∙◌, inr}
use mathlib.Core.List.{List, Memᴰ}
use Rattle.kleene.specs.Truth.{Truth, unknown, true3, false3, code_of}
use Rattle.policy.specs.declared.Policy.{Policy}
use Rattle.policy.specs.Format.{answer_of as policy_answer, policy_of}
use Rattle.policy.proofs.Laws.{accepted as policy_proper}
use Rattle.policy.proofs.Answered.{causes as policy_causes}
use Rattle.message.specs.Fixes.{WellFormed, meaning_of}
use Rattle.message.specs.declared.Message.{Message}
use Rattle.knowledge.specs.Trace.{Trace, Admits}
use Rattle.knowledge.specs.Knowledge.{Knowledge, KnownPoint}
use Rattle.knowledge.proofs.Laws.{point_law}
use Rattle.knowledge.proofs.Store.{fact_law, fixed_place, fixed_fact}
use Rattle.valuation.specs.Sheets.{value, verdict}
use Rattle.reach.proofs.Laws.{unroll_reach}
use Rattle.reach.specs.Reaches.{rule_reach}
use Rattle.reach.proofs.Refusals.{causes as reach_causes}
use Rattle.completeness.specs.Complete.{Complete, Every, Named, NoBlanks}
use Rattle.completeness.proofs.Stands.{for_fewer, no_blanks}
use Rattle.completeness.specs.Reports.{AllTold}
use Rattle.completeness.specs.Reports.{Reports}
use Rattle.completeness.specs.Told.{Told}
use Rattle.completeness.proofs.Told.{all_told}
use Rattle.origin.specs.Origin.{Origin, origin_of}
use Rattle.monitor.specs.State.{State, open_state, receive, Call, run_calls, after, Taken, accepted, Offered, Entry}
use Rattle.monitor.specs.Demands.{sizes_of, rule_line, shown, Sheets, Sends, after_entries, accepted_in, takes_of, FullSheet, CompleteShifts}
use Rattle.demands.proofs.Invariant.{KeptUp}
use Rattle.demands.proofs.Keeping.{verdict_point, marks_in, shown_at}
use Rattle.demands.proofs.Plainly.{plain_verdict}
use Rattle.demands.proofs.Runs.{all_up}
use Rattle.demands.proofs.Proved.{opens, ranged, demand_1, demand_2, demand_3}
use Rattle.demands.proofs.Packets.{demand_3_packets}
use Rattle.demands.proofs.Points.{up}

-- ---- a record

of_named : (s : List ℕ) → policy_answer s ≡ Ok tt → (k : Knowledge) → Complete (sizes_of s) (Named (policy_of s)) k → NoBlanks (policy_of s) k
of_named s e k c = no_blanks (policy_of s) (policy_proper s e) k c

-- ---- its sheet

-- where the knowledge gives a verdict, the sheet shows one
shows : (p : Policy) (x : State) → Sheets p x → (r t : ℕ) → r < p.rules → t < p.sizes.minutes → verdict p x.known r t ≢ 0 → shown p x r t ≢ 0
shows p x sheets r t l h n =
    let z = verdict_point p x.known r t (verdict p x.known r t) refl n in
    go (value p x.known (rule_line p r) t) refl (λ e. n (sym z.1 ∙ e)) ((point_law p.sizes x.known t).0 z.0)
  where
    go : (v : Truth) → value p x.known (rule_line p r) t ≡ v → code_of (value p x.known (rule_line p r) t) ≢ 0 → KnownPoint p.sizes x.known t → shown p x r t ≢ 0
    go unknown e n b = absurd (n (ap code_of e))
    go true3 e n b = λ q. let s : shown p x r t ≡ 1 = (sheets.kept r t l h).1 (b, e) in omega arith
    go false3 e n b = λ q. let s : shown p x r t ≡ 2 = (sheets.broken r t l h).1 (b, e) in omega arith

sheet : (s : List ℕ) (x : State) (b : List ℕ) → Taken (receive s x b).answer
    → Complete (sizes_of s) (Named (policy_of s)) (receive s x b).state.known → (r t : ℕ) → r < (policy_of s).rules
    → KnownPoint (sizes_of s) (receive s x b).state.known t → t + rule_reach (policy_of s) r < (sizes_of s).minutes
    → shown (policy_of s) (receive s x b).state r t ≢ 0
sheet s x b taken c r t l k h =
    let card = (policy_causes s).accepted.1 ((demand_1.take s x b).taken.0 taken).0.policy in
    shows (policy_of s) (receive s x b).state (demand_2.sheets s x b taken) r t l (omega arith) (of_named s card (receive s x b).state.known c r t l k h)

-- ---- from messages

-- a state that is kept up has what its messages fix
told : (p : Policy) (o : Origin) (x : State) (Q : Message → Type 0) → KeptUp p o x Q → Told p.sizes x.known Q
told p o x Q up = record {
  numbers = λ m q a n f.
      let l = fixed_place p.sizes m.event (up.fits m q).event_in a n f in
      let b = up.small m q a n f in
      (b, (up.exact.numbers m.component a n (up.fits m q).component_in l b).1 (inr (m, q, refl, f)));
  facts = λ m q i t b u f.
      let r = fixed_fact p.sizes m.event (up.fits m q).event_in i t b f in
      ((fact_law x.known i t b).0 ((up.exact.facts i t b r.0 r.1).1 (m, q, f))).is;
}

whole : (p : Policy) (o : Origin) (x : State) (Q : Message → Type 0) → KeptUp p o x Q → (P : ℕ → Type 0) (w : Trace p.sizes)
    → Reports p.sizes P w Q → AllTold p.sizes P w x.known
whole p o x Q up P w r = all_told p.sizes P w Q x.known up.exact.sound (told p o x Q up) r

module _ (s : List ℕ) (x : State) (d : (open_state s x).answer ≡ Ok tt) where
  reported : (cs : List Call) (P : ℕ → Type 0) (w : Trace (sizes_of s)) → Reports (sizes_of s) P w (λ m. Memᴰ m (accepted s x cs))
      → AllTold (sizes_of s) P w (after s x cs).known
  reported cs P w r = whole (policy_of s) (origin_of s) (after s x cs) _ (up s x d cs) P w r

  reported_packets : (es : List Entry) (P : ℕ → Type 0) (w : Trace (sizes_of s)) → Reports (sizes_of s) P w (λ m. Memᴰ m (accepted_in s x es))
      → AllTold (sizes_of s) P w (after_entries s x es).known
  reported_packets es P w r =
      let e = demand_3_packets.takes s x es in
      subst (λ (y : State). AllTold (sizes_of s) P w y.known) (sym e.0)
      (reported (takes_of s x es) P w (subst (λ (ms : List Message). Reports (sizes_of s) P w (λ m. Memᴰ m ms)) e.1 r))

  offered : (cs : List Call) (P : ℕ → Type 0) (w : Trace (sizes_of s))
      → ((b : List ℕ) → Offered b cs → WellFormed (sizes_of s) b → Admits (sizes_of s) w (meaning_of b))
      → Reports (sizes_of s) P w (Sends (sizes_of s) cs) → AllTold (sizes_of s) P w (after s x cs).known
  offered cs P w a r =
      let o = opens s x d in
      let sent : (m : Message) → Sends (sizes_of s) cs m → Admits (sizes_of s) w m = λ m z. rw (← z.3) (a z.0 z.1 z.2) in
      let ups = subst (λ (y : State). KeptUp (policy_of s) (origin_of s) (run_calls s y cs) (Sends (sizes_of s) cs)) (sym o.state)
      (all_up s o.card (policy_proper s o.card) (ranged s o.card) w cs sent) in
      whole (policy_of s) (origin_of s) (after s x cs) _ ups P w r

  full : (cs : List Call) (w : Trace (sizes_of s)) → AllTold (sizes_of s) (Named (policy_of s)) w (after s x cs).known → FullSheet s w (after s x cs) (accepted s x cs)
  full cs w a r t l e h =
      let inside : t < (sizes_of s).minutes = omega arith in
      let n = of_named s (opens s x d).card (after s x cs).known a.complete r t l (a.busy t inside e) h in
      let stands : shown (policy_of s) (after s x cs) r t ≢ 0 = λ q.
      n (sym (shown_at (policy_of s) (origin_of s) (after s x cs) _ (up s x d cs) r t l inside) ∙ q) in
      (stands, λ v adm. demand_3.truth s x d cs r t l inside stands v adm)

  full_packets : (es : List Entry) (w : Trace (sizes_of s)) → AllTold (sizes_of s) (Named (policy_of s)) w (after_entries s x es).known
      → FullSheet s w (after_entries s x es) (accepted_in s x es)
  full_packets es w a =
      let e = demand_3_packets.takes s x es in
      subst (λ (y : State). FullSheet s w y (accepted_in s x es)) (sym e.0)
      (subst (FullSheet s w (after s x (takes_of s x es))) (sym e.1)
      (full (takes_of s x es) w (subst (λ (y : State). AllTold (sizes_of s) (Named (policy_of s)) w y.known) e.0 a)))

pub complete_shifts : CompleteShifts
complete_shifts = record {
  reaches = λ s e l. unroll_reach _ (policy_proper s e).earlier l;
  asked = reach_causes;
  of_record = λ s e k c. of_named s e k (for_fewer (sizes_of s) Every (Named (policy_of s)) k (λ i n. tt) c);
  of_named = of_named;
  truth = λ s k sound words r t n w g. plain_verdict (policy_of s) k (marks_in (sizes_of s) k sound words) r t n w g;
  sheet = sheet;
  reported = reported;
  reported_packets = reported_packets;
  offered = offered;
  full = full;
  full_packets = full_packets;
}
