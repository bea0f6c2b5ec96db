-- Offsets and coordinates correspond one to one below the volume. By induction on the lengths, each axis being one digit.
use Rattle.lists.proofs.Kit.{◌≡◌, refl, sym, ap, ap₂, ◌∙◌, List, [], ◌∷◌, ℕ, suc, ◌+◌, ◌*◌, ◌/◌, ◌%◌, ◌<◌, zero-le, suc-le-suc, mod-lt, div-add-mod', div-lt_iff_lt-mul, arith, length, digits_div, digits_mod, digits_lt, lt-one}
use Rattle.lists.proofs.Words.{rest_pos}
use Rattle.layout.specs.Layout.{volume, Within, at, coords}
use Rattle.layout.specs.Layout.Within.{none, more}

pub within_length : {ds x : List ℕ} → Within ds x → length x ≡ length ds
within_length none = refl
within_length (more h w) = ap suc (within_length w)

pub at_lt : {ds x : List ℕ} → Within ds x → at ds x < volume ds
unfolding at volume
at_lt none = suc-le-suc zero-le
at_lt (more h w) = digits_lt h (at_lt w)

pub within_coords : (ds : List ℕ) (p : ℕ) → p < volume ds → Within ds (coords ds p)
unfolding coords volume
within_coords [] p h = none
within_coords (d ∷ ds) p h =
    let v : 0 < volume ds = rest_pos d (volume ds) p h in
    more ((div-lt_iff_lt-mul v).1 h) (within_coords ds (p % volume ds) (mod-lt p v))

pub at-coords : (ds : List ℕ) (p : ℕ) → p < volume ds → at ds (coords ds p) ≡ p
unfolding at coords volume
at-coords [] p h = sym (lt-one h)
at-coords (d ∷ ds) p h =
    let v : 0 < volume ds = rest_pos d (volume ds) p h in
    ap (λ (z : ℕ). p / volume ds * volume ds + z) (at-coords ds (p % volume ds) (mod-lt p v)) ∙ div-add-mod' p (volume ds)

pub coords-at : {ds x : List ℕ} → Within ds x → coords ds (at ds x) ≡ x
unfolding at coords
coords-at none = refl
coords-at (more {x = y} {ds = es} h w) =
    ap₂ ◌∷◌ (digits_div y (at_lt w)) (ap (coords es) (digits_mod y (at_lt w)) ∙ coords-at w)

-- the words and the offsets of three axes
pub volume_three : (a b c : ℕ) → volume (a ∷ b ∷ c ∷ []) ≡ a * b * c
unfolding volume
volume_three a b c = omega arith

pub at_three : (a b c i j u : ℕ) → at (a ∷ b ∷ c ∷ []) (i ∷ j ∷ u ∷ []) ≡ (i * b + j) * c + u
unfolding at volume
at_three a b c i j u = omega arith
