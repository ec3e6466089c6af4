-- Laws of the definitions in specs/Laws. Assumes nothing.
use Rattle.std.specs.Prelude.{ℕ, ◌≡◌, refl, Bool, true, false, cond, ◌↔◌, ◌⊎◌, List, [], ◌∷◌, ◌++◌, eqb, Result, Err, Ok}
use Rattle.std.proofs.Common.{arith, sym, ap, ap₂, subst, ◌∙◌, true≢false, inl, inr, eq-eqb}
use Rattle.std.proofs.Math.Bool.{or-true}
use Rattle.refusal.specs.declared.Refusal.{Refusal}
use Rattle.refusal.specs.Checks.{Checked}
use Rattle.refusal.specs.Numbers.{refusal_number, refusal_place, refusal_of}
use Rattle.refusal.proofs.Numbers.{only_one}
use Rattle.refusal.specs.Checks.{Check, give_unless, reply, first_failed, and_then, Passed, none, pass, Refuses, here, there, RefusedWith}
use Rattle.refusal.specs.Laws.{numbered}

pub not_accepted : (r : Refusal) → ◌≡◌ {A = Checked} (Err r) (Ok tt) → ⊥
not_accepted r e = let z : ◌≡◌ {A = ℕ} 0 1 = cc in omega arith

pub same_refusal : {A : Type 0} (r q : Refusal) → ◌≡◌ {A = Result A Refusal} (Err r) (Err q) → r ≡ q
same_refusal r q e = cc

-- ---- what is given unless a check refuses

pub given : {A : Type 0} (a : Checked) (x y : A) → give_unless a x ≡ Ok y → (a ≡ Ok tt) × (y ≡ x)
given (Ok _) x y e = (refl, cc)
given {A = A} (Err r) x y e = absurd (let z : ◌≡◌ {A = ℕ} 0 1 = cc in omega arith)

pub withheld : {A : Type 0} (a : Checked) (x : A) (r : Refusal) → give_unless a x ≡ Err r → a ≡ Err r
withheld (Ok _) x r e = absurd (let z : ◌≡◌ {A = ℕ} 0 1 = cc in omega arith)
withheld (Err q) x r e = cc

pub same_given : {A : Type 0} (x y : A) → ◌≡◌ {A = Result A Refusal} (Ok x) (Ok y) → x ≡ y
same_given x y e = cc

pub replied : {A : Type 0} (a : Checked) (x : A) → reply (give_unless a x) ≡ a
replied (Ok _) x = refl
replied (Err r) x = refl

-- ---- from the answer to the tests, and back

refused_by : (cs : List Check) (r : Refusal) → first_failed cs ≡ Err r → Refuses cs r
refused_by [] r e = absurd (not_accepted r (sym e))
refused_by (c ∷ cs) r e = go (refused_by cs r) c.passed refl e
  where
    go : (first_failed cs ≡ Err r → Refuses cs r) → (b : Bool) → c.passed ≡ b → cond b (first_failed cs) (Err c.refusal) ≡ Err r → Refuses (c ∷ cs) r
    go rest true p f = there p (rest f)
    go rest false p f = subst (Refuses (c ∷ cs)) (same_refusal c.refusal r f) (here p)

refuses_with : {cs : List Check} {r : Refusal} → Refuses cs r → first_failed cs ≡ Err r
refuses_with (here p) = rw p
refuses_with (there p q) = rw p (refuses_with q)

pub refusal_law : (cs : List Check) (r : Refusal) → (first_failed cs ≡ Err r) ↔ Refuses cs r
refusal_law cs r = (refused_by cs r, λ q. refuses_with q)

passed_all : (cs : List Check) → first_failed cs ≡ Ok tt → Passed cs
passed_all [] e = none
passed_all (c ∷ cs) e = go (passed_all cs) c.passed refl e
  where
    go : (first_failed cs ≡ Ok tt → Passed cs) → (b : Bool) → c.passed ≡ b → cond b (first_failed cs) (Err c.refusal) ≡ Ok tt → Passed (c ∷ cs)
    go rest true p f = pass p (rest f)
    go rest false p f = absurd (not_accepted c.refusal f)

goes_on : {cs : List Check} → Passed cs → first_failed cs ≡ Ok tt
goes_on none = refl
goes_on (pass p q) = rw p (goes_on q)

pub passing_law : (cs : List Check) → (first_failed cs ≡ Ok tt) ↔ Passed cs
passing_law cs = (passed_all cs, λ q. goes_on q)

-- ---- lists of checks, one after another

pub in_order : (xs ys : List Check) → first_failed (xs ++ ys) ≡ and_then (first_failed xs) (first_failed ys)
in_order [] ys = refl
in_order (c ∷ cs) ys = go (in_order cs ys) c.passed
  where
    go : first_failed (cs ++ ys) ≡ and_then (first_failed cs) (first_failed ys) → (b : Bool)
        → cond b (first_failed (cs ++ ys)) (Err c.refusal) ≡ and_then (cond b (first_failed cs) (Err c.refusal)) (first_failed ys)
    go rest true = rest
    go rest false = refl

pub refused_first : (xs ys : List Check) (r : Refusal) → Refuses xs r → Refuses (xs ++ ys) r
refused_first [] ys r q = elim q [ ]
refused_first (c ∷ cs) ys r (here p) = here p
refused_first (c ∷ cs) ys r (there p q) = there p (refused_first cs ys r q)

pub refused_later : (xs ys : List Check) (r : Refusal) → Passed xs → Refuses ys r → Refuses (xs ++ ys) r
refused_later [] ys r none q = q
refused_later (c ∷ cs) ys r (pass p ps) q = there p (refused_later cs ys r ps q)

pub refused_where : (xs ys : List Check) (r : Refusal) → Refuses (xs ++ ys) r → Refuses xs r ⊎ (Passed xs × Refuses ys r)
refused_where [] ys r q = inr (none, q)
refused_where (c ∷ cs) ys r (here p) = inl (here p)
refused_where (c ∷ cs) ys r (there p q) = go (refused_where cs ys r q)
  where
    go : Refuses cs r ⊎ (Passed cs × Refuses ys r) → Refuses (c ∷ cs) r ⊎ (Passed (c ∷ cs) × Refuses ys r)
    go (inl l) = inl (there p l)
    go (inr l) = inr (pass p l.0, l.1)

pub passed_both : (xs ys : List Check) → Passed xs → Passed ys → Passed (xs ++ ys)
passed_both [] ys none q = q
passed_both (c ∷ cs) ys (pass p ps) q = pass p (passed_both cs ys ps q)

pub passed_parts : (xs ys : List Check) → Passed (xs ++ ys) → Passed xs × Passed ys
passed_parts [] ys q = (none, q)
passed_parts (c ∷ cs) ys (pass p q) = let r = passed_parts cs ys q in (pass p r.0, r.1)

pub its_number : {cs : List Check} {r : Refusal} → Refuses cs r → numbered cs (refusal_number r) ≡ true
its_number {cs = []} q = elim q [ ]
its_number {cs = c ∷ cs} (here p) = rw (eq-eqb (refusal_number c.refusal) (refusal_number c.refusal) refl)
its_number {cs = c ∷ cs} {r = r} (there p q) = rw (its_number q) (or-true (eqb (refusal_number c.refusal) (refusal_number r)))

-- a refusal that no later check gives, and one that no earlier check gives
pub refused_before : (xs ys : List Check) (r : Refusal) → (Refuses ys r → ⊥) → Refuses (xs ++ ys) r ↔ Refuses xs r
refused_before xs ys r n = (λ q. go (refused_where xs ys r q), refused_first xs ys r)
  where
    go : Refuses xs r ⊎ (Passed xs × Refuses ys r) → Refuses xs r
    go (inl q) = q
    go (inr q) = absurd (n q.1)

pub refused_after : (xs ys : List Check) (r : Refusal) → (Refuses xs r → ⊥) → Refuses (xs ++ ys) r ↔ (Passed xs × Refuses ys r)
refused_after xs ys r n = (λ q. go (refused_where xs ys r q), λ q. refused_later xs ys r q.0 q.1)
  where
    go : Refuses xs r ⊎ (Passed xs × Refuses ys r) → Passed xs × Refuses ys r
    go (inl q) = absurd (n q)
    go (inr q) = q

-- a list without the number does not give the refusal
pub other_number : {cs : List Check} {r : Refusal} → numbered cs (refusal_number r) ≡ false → Refuses cs r → ⊥
other_number e q = true≢false (sym (its_number q) ∙ e)

-- ---- answers by number and place

pub the_refusal : {a : Checked} {n at : ℕ} (w : RefusedWith a n at) → w.refusal ≡ refusal_of n at
the_refusal w = sym (only_one w.refusal) ∙ ap₂ refusal_of w.number w.place

-- a list is refused with a number and place exactly when it gives the refusal that has them
pub number_law : (cs : List Check) (n at : ℕ)
    → RefusedWith (first_failed cs) n at ↔ (Refuses cs (refusal_of n at) × (refusal_number (refusal_of n at) ≡ n) × (refusal_place (refusal_of n at) ≡ at))
number_law cs n at = (there, back)
  where
    there : RefusedWith (first_failed cs) n at → Refuses cs (refusal_of n at) × (refusal_number (refusal_of n at) ≡ n) × (refusal_place (refusal_of n at) ≡ at)
    there w =
        let e = the_refusal w in (
          refused_by cs (refusal_of n at) (w.is ∙ ap Err e),
          ap refusal_number (sym e) ∙ w.number,
          ap refusal_place (sym e) ∙ w.place,
        )

    back : Refuses cs (refusal_of n at) × (refusal_number (refusal_of n at) ≡ n) × (refusal_place (refusal_of n at) ≡ at) → RefusedWith (first_failed cs) n at
    back q = record { refusal = refusal_of n at; is = refuses_with q.0; number = q.1; place = q.2 }
