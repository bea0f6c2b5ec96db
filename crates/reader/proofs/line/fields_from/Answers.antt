use Rattle.lists.proofs.Kit.{arith, ◌≡◌, sym, refl, List, [], ◌∷◌, ◌++◌, ℕ, ◌+◌, ◌<◌, drop, length, set, set_at, get_or, drop-next, append_snoc}
use Rattle.sheets.specs.Read.{Reading, read_fields}
use Rattle.sheets.proofs.Lines.{fields_text}
use Rattle.reader.specs.Private.{numbers_of}
use Rattle.reader.proofs.Runs.{got, no_field, fields_more, fields_stop}
use Rattle.reader.proofs.line.fields_from.Goals as goal
use Rattle.reader.proofs.line.fields_from.Goals.{then-i-out, else-i-out}

pub loop-i-init : goal.loop-i-init
loop-i-init c = (omega arith, got (no_field _), refl, λ h. rw (no_field c.args.bytes.now))

pub returns-in_err-field : goal.returns-in_err-field
returns-in_err-field c =
    rw c.from_residual.ensures
    (fields_stop c.loop-i.i c.args.n c.args.bytes.now c.loop-i.invariant.1 (sym c.in_err-field.ensures) (omega arith), c.loop-i.invariant.2)

-- one number more, behind those stored
stored_more : (us out before : List ℕ) (v i : ℕ) → length us ≡ i → i < length before → out ≡ us ++ drop i before → set out i v ≡ (us ++ (v ∷ [])) ++ drop (i + 1) before
stored_more us out before v i l h e =
    rw (e, drop-next before i h, set_at us (get_or before i 0) (drop (i + 1) before) v i l, append_snoc us v (drop (i + 1) before))

pub loop-i-preserved : goal.loop-i-preserved
loop-i-preserved c =
    let l = c.loop-i in
    let bs = c.args.bytes.now in
    let us = numbers_of (read_fields l.i bs) in
    let v = c.in_ok-field.field.value in
    let long : length us ≡ l.i = (fields_text l.i bs l.invariant.1).long in
    let more : read_fields (l.i + 1) bs ≡ Reading.found (us ++ (v ∷ [])) c.in_ok-field.field.rest.now = fields_more l.i bs l.invariant.1 (sym c.in_ok-field.ensures) in
    let rest : length c.if-i-out.out ≡ length c.args.out.now = omega (arith, c.if-i-out.auto.out) in (
      omega arith,
      got more,
      rest,
      λ h. elim c.if-i-out.branch [
        | then-i-out w ↦ rw (w.out-is, more) (stored_more us l.out c.args.out.now v l.i long (omega arith) (l.invariant.3 (omega arith)))
        | else-i-out w ↦ absurd (omega arith)
      ],
    )

pub returns : goal.returns
returns c =
    let e : c.loop-i.i ≡ c.args.n = omega arith in
    let long : length (numbers_of (read_fields c.loop-i.i c.args.bytes.now)) ≡ c.loop-i.i = (fields_text c.loop-i.i c.args.bytes.now c.loop-i.invariant.1).long in
    rw (← e) (c.loop-i.invariant.1, c.loop-i.invariant.2, λ h. rw long (c.loop-i.invariant.3 (omega arith)))
