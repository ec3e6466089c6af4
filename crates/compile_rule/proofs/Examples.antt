-- Worked examples, by computation.
use Rattle.std.specs.Prelude.{ℕ, ◌≡◌, refl, List, [], ◌∷◌}
use Prim.Native.Char.{code}
use Prim.Native.String.{String}
use Prim.Native.String as S
use Rattle.compile_rule.specs.declared.reason.Reason.TheVariants.{Term, Space, Number, LeadingZero, End, Close, Joint, Comma, CloseInterval, Since}
use Rattle.compile_rule.specs.declared.excess.Excess.TheVariants.{Mark, Bound, Nesting, Interval}
use Rattle.compile_rule.specs.Choices.{choose, digit}
use Rattle.compile_rule.specs.Begun.{begin_term, end_term, begin_joint, go_on, go_on_mark, go_on_bound, step, begun}
use Rattle.compile_rule.specs.Words.{byte_before, leading_zero, number_reason, ended_reason, reason_at, term_limit, limit_at}

abbrev ascii : String → List ℕ
ascii S.[] = []
ascii (S.◌∷◌ c s) = code c ∷ ascii s

record Reasons : Type 0 where
  empty : reason_at (ascii "") 0 ≡ Term
  second : reason_at (ascii "(m1 or  m2)") 7 ≡ Term
  ended : reason_at (ascii "m1 ") 2 ≡ End
  first : reason_at (ascii "(m1)") 3 ≡ Space
  three : reason_at (ascii "(m1 or m2 or m3)") 9 ≡ Close
  outer : reason_at (ascii "((m1 or m2)") 11 ≡ Space
  inner : reason_at (ascii "(m1 or (m2 or m3") 16 ≡ Close
  joint : reason_at (ascii "(m1  or m2)") 4 ≡ Joint
  word : reason_at (ascii "(m1 sinse") 7 ≡ Since
  missing : reason_at (ascii "(m1 since[,1] m2)") 10 ≡ Number
  leading : reason_at (ascii "m09") 2 ≡ LeadingZero
  zero_alone : reason_at (ascii "(m1 since[0;1]") 11 ≡ Comma
  zeros_inside : reason_at (ascii "(m1 since[100x") 13 ≡ Comma
  upper : reason_at (ascii "(m1 since[5,3") 13 ≡ CloseInterval

reasons : Reasons
unfolding choose digit begin_term end_term begin_joint go_on go_on_mark go_on_bound step begun byte_before leading_zero number_reason ended_reason reason_at
reasons =
    record {
      empty = refl;
      second = refl;
      ended = refl;
      first = refl;
      three = refl;
      outer = refl;
      inner = refl;
      joint = refl;
      word = refl;
      missing = refl;
      leading = refl;
      zero_alone = refl;
      zeros_inside = refl;
      upper = refl;
    }

record Limits : Type 0 where
  mark : limit_at (ascii "(m1 or m9)") 8 ≡ Mark
  lower : limit_at (ascii "(m1 since[2000,3000] m2)") 10 ≡ Bound
  upper : limit_at (ascii "(m1 since[2,3000] m2)") 12 ≡ Bound
  interval : limit_at (ascii "(m1 since[5,3] m2)") 9 ≡ Interval
  nested : limit_at (ascii "(((((((((((((((((((((((((((((((((") 32 ≡ Nesting

limits : Limits
unfolding choose digit begin_term end_term begin_joint go_on go_on_mark go_on_bound step begun term_limit limit_at
limits = record { mark = refl; lower = refl; upper = refl; interval = refl; nested = refl }
