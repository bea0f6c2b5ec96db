-- `check_add` meets its contract: each test is that of a check, in its order; the words before and after are products.
use Rattle.lists.proofs.Kit.{◌≡◌, sym, ◌∙◌, Bool, true, false, cond, List, [], ◌∷◌, ℕ, ◌+◌, ◌*◌, ◌<◌, ◌≤◌, refl, arith, ltb, length, lt-ltb, le-ltb, eq-eqb, ne_eqb, via}
use Rattle.layout.specs.Layout.{volume}
use Rattle.refusals.specs.FirstOf.{Check, check, first_of}
use Rattle.refusals.specs.Conditions.{short_buffer}
use Rattle.flat.specs.Turn.{sides}
use Rattle.flat.proofs.Turn.{volume_two}
use Rattle.cameras.specs.Promises.{bad_cameras, no_column, other_length, add_checks}
use Rattle.cameras.proofs.check_add.Goals as goal

-- the size after is too large, whether or not the size before is
either_way : (t : Bool) → cond {A = ℕ} t 2 2 ≡ 2
either_way true = refl
either_way false = refl

module _ (f n k : ℕ) (column buffer : List ℕ) (good : bad_cameras f n (n + 1) ≡ false) where
  abbrev number : ℕ
  number = first_of (add_checks f n k column buffer)

  abbrev from_25 : List Check
  from_25 = check 25 (other_length f column) ∷ []

  abbrev from_17 : List Check
  from_17 = check 17 (short_buffer (sides f (n + 1)) buffer) ∷ from_25

  abbrev from_16 : List Check
  from_16 = check 16 (no_column n k) ∷ from_17

  large : 1048576 < f * n + f → 2 ≡ number
  large h =
      rw (good, lt-ltb 1048576 (volume (sides f (n + 1))) (omega (arith, volume_two f (n + 1)))) (sym (either_way (ltb 1048576 (volume (sides f n)))))

  -- each check that is passed leaves the rest to decide
  module _ (room : f * n + f ≤ 1048576) where
    sized : number ≡ first_of (check 3 (short_buffer (sides f n) buffer) ∷ from_16)
    sized =
        let before = volume_two f n in
        let after = volume_two f (n + 1) in
        rw (good, le-ltb 1048576 (volume (sides f n)) (omega arith), le-ltb 1048576 (volume (sides f (n + 1))) (omega arith))

    short : length buffer < f * n → 3 ≡ number
    short h = sym (sized ∙ rw (lt-ltb (length buffer) (volume (sides f n)) (omega (arith, volume_two f n))))

    module _ (enough : f * n ≤ length buffer) where
      held : number ≡ first_of from_16
      held = sized ∙ rw (le-ltb (length buffer) (volume (sides f n)) (omega (arith, volume_two f n)))

      past_columns : n < k → 16 ≡ number
      past_columns h = sym (held ∙ rw (lt-ltb n k h))

      module _ (there : k ≤ n) where
        placed : number ≡ first_of from_17
        placed = held ∙ rw (le-ltb n k there)

        no_room : length buffer < f * n + f → 17 ≡ number
        no_room h = sym (placed ∙ rw (lt-ltb (length buffer) (volume (sides f (n + 1))) (omega (arith, volume_two f (n + 1)))))

        module _ (roomy : f * n + f ≤ length buffer) where
          last : number ≡ first_of from_25
          last = placed ∙ rw (le-ltb (length buffer) (volume (sides f (n + 1))) (omega (arith, volume_two f (n + 1))))

          other : (length column ≡ f → ⊥) → 25 ≡ number
          other h = sym (last ∙ rw (ne_eqb (length column) f h))

          accepted : length column ≡ f → 0 ≡ number
          accepted h = sym (last ∙ rw (eq-eqb (length column) f h))

pub returns-then-room-gt-MOST_WORDS : goal.returns-then-room-gt-MOST_WORDS
returns-then-room-gt-MOST_WORDS c = let a = c.args in large a.frames a.cameras a.column a.words.now a.buf.now (search via) (omega arith)

pub returns-then-buf-size : goal.returns-then-buf-size
returns-then-buf-size c = let a = c.args in short a.frames a.cameras a.column a.words.now a.buf.now (search via) (omega arith) (omega arith)

pub returns-then-cameras-column : goal.returns-then-cameras-column
returns-then-cameras-column c = let a = c.args in past_columns a.frames a.cameras a.column a.words.now a.buf.now (search via) (omega arith) (omega arith) (omega arith)

pub returns-then-buf-room : goal.returns-then-buf-room
returns-then-buf-room c = let a = c.args in no_room a.frames a.cameras a.column a.words.now a.buf.now (search via) (omega arith) (omega arith) (omega arith) (omega arith)

pub returns-then-words-frames : goal.returns-then-words-frames
returns-then-words-frames c = let a = c.args in other a.frames a.cameras a.column a.words.now a.buf.now (search via) (omega arith) (omega arith) (omega arith) (omega arith) (search)

pub returns : goal.returns
returns c = let a = c.args in accepted a.frames a.cameras a.column a.words.now a.buf.now (search via) (omega arith) (omega arith) (omega arith) (omega arith) (search)
