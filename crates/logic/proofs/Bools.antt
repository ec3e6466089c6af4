-- Laws of Bool that every layer uses; what is said of a test and the claim that it decides stands in `decide`. Assumes nothing.
use Rattle.std.specs.Prelude.{◌≡◌, refl, Bool, true, false, not, ◌&&◌, ◌||◌}
use Rattle.std.proofs.Common.{sym, true≢false}

-- both parts of an and hold, and an and of parts that hold
pub both : (a b : Bool) → (a && b) ≡ true → (a ≡ true) × (b ≡ true)
both true b e = (refl, e)
both false b e = absurd (true≢false (sym e))

pub pair : {a b : Bool} → a ≡ true → b ≡ true → (a && b) ≡ true
pair e f = rw (e, f)

-- an implication, used and shown
pub imply : (a b : Bool) → (not a || b) ≡ true → a ≡ true → b ≡ true
imply true b e h = e
imply false b e h = absurd (true≢false (sym h))

pub implied : (a b : Bool) → (a ≡ true → b ≡ true) → (not a || b) ≡ true
implied true b f = f refl
implied false b f = refl

-- "a and b is not (not a or not b)"
pub de_morgan : (a b : Bool) → not (not a || not b) ≡ (a && b)
de_morgan true true = refl
de_morgan true false = refl
de_morgan false b = refl
