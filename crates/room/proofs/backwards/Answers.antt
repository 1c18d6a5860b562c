-- So many digits are made, and those of `rest` are left: there are twenty at most.
-- Assumes nothing.
use Rattle.std.proofs.Common.{arith, ◌≡◌, ◌+◌, ◌∙◌, ◌%◌, ◌/◌, ap, sym, ℕ, [], ◌∷◌, ◌++◌, length, length-append}
use native.Mathlib.Nat.{div-one}
use Rattle.model.specs.Numbers.{digit_byte, places}
use Rattle.model.proofs.NumberLaws.{places_small}
use Rattle.room.proofs.DigitLaws.{made_all, made_more, made_none, places_big, places_most, places_some, rest_more}
use Rattle.room.proofs.backwards.Goals as goal

pub loop-rest-init : goal.loop-rest-init
loop-rest-init c = let v = c.args.v in rw c.new-made.ensures record { left = sym (div-one v); few = omega arith; most = places_most v (omega arith); digits = made_none v }

pub loop-rest-preserved : goal.loop-rest-preserved
loop-rest-preserved c =
    let h = c.loop-rest.invariant in
    let v = c.args.v in
    let r = c.loop-rest.rest in
    let l = c.loop-rest.made.items in
    let more : length (l ++ c.digit_byte.result ∷ []) ≡ length l + 1 = omega (arith, length-append {A = ℕ}) in
    rw c.push.ensures.items record {
      left = rw more (ap (λ (x : ℕ). x / 10) h.left ∙ rest_more v (length l));
      few = rw more (omega (arith, places_big r c.loop-rest-test.true));
      most = h.most;
      digits = made_more l v r _ h.digits h.left c.digit_byte.ensures;
    }

pub push-requires-2 : goal.push-requires-2
push-requires-2 c = let r = c.loop-rest.rest in (omega arith, omega (arith, places_some r))

pub returns : goal.returns
returns c =
    let h = c.loop-rest.invariant in
    let v = c.args.v in
    let r = c.loop-rest.rest in
    let l = c.loop-rest.made.items in
    let s : places r r ≡ 1 = places_small r (omega arith) in
    let m : r % 10 % 16 ≡ r % 16 = omega arith in
    rw c.push-2.ensures.items (made_all _ v (made_more l v r _ h.digits h.left (c.digit_byte-2.ensures ∙ ap digit_byte (sym m))) (omega (arith, length-append {A = ℕ})))
