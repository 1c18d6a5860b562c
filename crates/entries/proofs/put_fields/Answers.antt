-- What is left of the fields is left to be written.
-- Assumes nothing.
use Rattle.std.proofs.Common.{arith, ◌≡◌, ap₂, inl, inr, ⊎_elim}
use Rattle.entries.specs.Lines.{fields_text}
use Rattle.room.proofs.PenLaws.{left_all, left_kept, left_less, left_none}
use Rattle.entries.proofs.FieldLaws.{fields_end, fields_none, fields_one}
use Rattle.entries.proofs.put_fields.Goals as goal

pub loop-c-init : goal.loop-c-init
loop-c-init c =
    let ks : c.args.columns.now ≡ c.into_iter-c-iterator.result.a.rest.now = cc (c.into_iter-c-iterator.ensures.into_iter_gives, c.zip-c-items.ensures.first, c.iter.ensures.rest) in
    let fs : c.args.fields.now ≡ c.into_iter-c-iterator.result.b.rest.now = cc (c.into_iter-c-iterator.ensures.into_iter_gives, c.zip-c-items.ensures.second.0) in
    left_kept (left_all _ _ (omega arith)) (ap₂ fields_text ks fs)

pub loop-c-preserved-then-c : goal.loop-c-preserved-then-c
loop-c-preserved-then-c c = left_less _ _ _ c.loop-c.invariant c.put_field.ensures (fields_one c.in-Some.ensures.steps.0 c.in-Some.ensures.steps.1 c.if-c.true)

pub loop-c-preserved : goal.loop-c-preserved
loop-c-preserved c = left_kept c.loop-c.invariant (fields_none c.in-Some.ensures.steps.0 c.in-Some.ensures.steps.1 c.if-c.false)

pub returns : goal.returns
returns c =
    let I = c.loop-c.c-iterator in
    left_none (left_kept c.loop-c.invariant (fields_end I.a.rest.now I.b.rest.now (⊎_elim (λ x. inl x.1.0) (λ x. inr x.1.0) c.in-None.ensures.steps)))
