-- What the checks of removing and of adding tell where none holds, and the two kinds of outcome that a promise has.
use Rattle.lists.proofs.Kit.{◌≡◌, sym, ap, ◌∙◌, false, List, [], ◌∷◌, ℕ, suc, ◌+◌, ◌*◌, ◌-◌, ◌<◌, ◌≤◌, arith, eqb, lit<, length, ltb-false, eqb-true, not-false}
use Rattle.layout.specs.Layout.{volume}
use Rattle.refusals.specs.FirstOf.{first_of, Silent}
use Rattle.refusals.proofs.FirstOf.{zero_silent}
use Rattle.refusals.specs.FirstOf.Silent.{none, more}
use Rattle.refusals.proofs.Conditions.{InRange, in_range, range_in, passed}
use Rattle.flat.specs.Turn.{sides}
use Rattle.flat.proofs.Turn.{volume_two}
use Rattle.cameras.specs.Promises.{bad_cameras, remove_checks, add_checks}

-- removing: n cameras are left, at least one
pub record Removes (frames cameras n k : ℕ) (buffer : List ℕ) : Type 0 where
  pub left : cameras ≡ suc n
  pub some : 0 < frames
  pub any : 0 < n
  pub thin : n ≤ 4096
  pub low : k ≤ n
  pub few : frames * suc n ≤ 1048576
  pub fits : frames * suc n ≤ length buffer

pub removes : (frames cameras k : ℕ) (buffer : List ℕ) → first_of (remove_checks frames cameras k buffer) ≡ 0 → Removes frames cameras (cameras - 1) k buffer
removes f c k buffer e = go (zero_silent (remove_checks f c k buffer) tt e)
  where
    sized : InRange (f ∷ c ∷ (c - 1) ∷ []) → (c ≡ suc (c - 1)) × (0 < f) × (0 < c - 1) × (c - 1 ≤ 4096)
    sized (InRange.more pf ff (InRange.more pc fc (InRange.more pd fd r))) = (omega arith, omega arith, omega arith, omega arith)

    go : Silent (remove_checks f c k buffer) → Removes f c (c - 1) k buffer
    go (more one (more two (more three (more sixteen none)))) =
        let ranged = sized (in_range (f ∷ c ∷ (c - 1) ∷ []) one) in
        let left = ranged.0 in
        let words : f * suc (c - 1) ≡ volume (sides f c) = ap (λ (z : ℕ). f * z) (sym left) ∙ sym (volume_two f c) in
        record {
          left = left;
          some = ranged.1;
          any = ranged.2;
          thin = ranged.3;
          low = ltb-false (c - 1) k sixteen;
          few = rw words (ltb-false 1048576 (volume (sides f c)) two);
          fits = rw words (ltb-false (length buffer) (volume (sides f c)) three);
        }

-- the lengths that are left, and one camera more, are in range again
pub lengths_left : (frames cameras k : ℕ) (buffer : List ℕ) → first_of (remove_checks frames cameras k buffer) ≡ 0
    → bad_cameras frames (cameras - 1) (cameras - 1 + 1) ≡ false
lengths_left f c k buffer e = go (in_range (f ∷ c ∷ (c - 1) ∷ []) (passed (bad_cameras f c (c - 1)) 1 _ (lit< tt) e).0)
  where
    go : InRange (f ∷ c ∷ (c - 1) ∷ []) → bad_cameras f (c - 1) (c - 1 + 1) ≡ false
    go (InRange.more pf ff (InRange.more pc fc (InRange.more pd fd InRange.none))) =
        rw (
          range_in f (λ z. omega arith) ff,
          range_in (c - 1) (λ z. omega arith) (omega arith),
          range_in (c - 1 + 1) (λ z. omega arith) (omega arith),
        )

-- adding
pub record Adds (frames n k : ℕ) (column buffer : List ℕ) : Type 0 where
  pub some : 0 < frames
  pub any : 0 < n
  pub thin : n ≤ 4096
  pub low : k ≤ n
  pub fits : frames * suc n ≤ length buffer
  pub long : length column ≡ frames

pub adds : (frames n k : ℕ) (column buffer : List ℕ) → first_of (add_checks frames n k column buffer) ≡ 0 → Adds frames n k column buffer
adds f n k column buffer e = go (zero_silent (add_checks f n k column buffer) tt e)
  where
    sized : InRange (f ∷ n ∷ (n + 1) ∷ []) → (0 < f) × (0 < n) × (n ≤ 4096)
    sized (InRange.more pf ff (InRange.more pn fn r)) = (omega arith, omega arith, omega arith)

    go : Silent (add_checks f n k column buffer) → Adds f n k column buffer
    go (more one (more two (more two' (more three (more sixteen (more seventeen (more twentyfive none))))))) = record {
      some = (sized (in_range (f ∷ n ∷ (n + 1) ∷ []) one)).0;
      any = (sized (in_range (f ∷ n ∷ (n + 1) ∷ []) one)).1;
      thin = (sized (in_range (f ∷ n ∷ (n + 1) ∷ []) one)).2;
      low = ltb-false n k sixteen;
      fits = omega (arith, volume_two f (n + 1), ltb-false (length buffer) (volume (sides f (n + 1))) seventeen);
      long = eqb-true (length column) f (not-false (eqb (length column) f) twentyfive);
    }
