-- Any two outcomes that a conversion allows coincide, and what a caller sees of a conversion: each undoes the other; a tile at least as wide as the
-- block leaves every word in place; a tile taller than the block leaves the words that one as tall leaves. From the laws of the tiles.
use Rattle.lists.proofs.Kit.{◌≡◌, refl, sym, ◌∙◌, List, ℕ, ◌≤◌, length}
use Rattle.refusals.specs.FirstOf.{first_of}
use Rattle.refusals.proofs.Promise.{one_accepted}
use Rattle.tiles.specs.Tiles.{Tiled}
use Rattle.tiles.proofs.Tiled.{one_tiled, one_untiled, wide_stays, tall_same}
use Rattle.tiles.specs.Promises.{band_need, tile_checks, ToTilesPromise, FromTilesPromise}
use Rattle.tiles.proofs.Accepted.{Accepted, tiles_accepted, passes_again}

-- two right outcomes of an accepted conversion are equal
module _ (m n r s : ℕ) (b₀ s₀ : List ℕ) (good : first_of (tile_checks m n r s b₀ s₀) ≡ 0) where
  ok : Accepted m n r s b₀ s₀
  ok = tiles_accepted m n r s b₀ s₀ good

  one_to : (ys zs : List ℕ) → Tiled m n r s b₀ ys → Tiled m n r s b₀ zs → ys ≡ zs
  one_to ys zs t u = one_tiled ok.whole ok.high ok.step t u

  one_from : (ys zs : List ℕ) → Tiled m n r s ys b₀ → Tiled m n r s zs b₀ → ys ≡ zs
  one_from ys zs t u = one_untiled ok.whole t u

pub to_tiles_once : (m n r s : ℕ) {k k' : ℕ} {b₀ s₀ b sc b' sc' : List ℕ}
    → ToTilesPromise m n r s b₀ s₀ k b sc → ToTilesPromise m n r s b₀ s₀ k' b' sc' → (k ≡ k') × (b ≡ b') × (sc ≡ sc')
to_tiles_once m n r s {b₀ = b₀} {s₀} p q = one_accepted (one_to m n r s b₀ s₀) p q

pub from_tiles_once : (m n r s : ℕ) {k k' : ℕ} {b₀ s₀ b sc b' sc' : List ℕ}
    → FromTilesPromise m n r s b₀ s₀ k b sc → FromTilesPromise m n r s b₀ s₀ k' b' sc' → (k ≡ k') × (b ≡ b') × (sc ≡ sc')
from_tiles_once m n r s {b₀ = b₀} {s₀} p q = one_accepted (one_from m n r s b₀ s₀) p q

-- an accepted conversion, then the other one with the same sides and tiles through any scratch that is enough: accepted, every word home
module _ (m n r s : ℕ) {k : ℕ} {b₀ s₀ b₁ s₁ t₁ b₂ t₂ : List ℕ} (room : band_need n r ≤ length t₁) where
  pub there_and_back : ToTilesPromise m n r s b₀ s₀ 0 b₁ s₁ → FromTilesPromise m n r s b₁ t₁ k b₂ t₂ → (k ≡ 0) × (b₂ ≡ b₀)
  there_and_back p q =
      let good = sym p.number_is in
      let t = p.words refl in
      let z = q.number_is ∙ passes_again m n r s b₀ b₁ s₀ t₁ good t.same room in
      (z, one_untiled (t.same ∙ (ok m n r s b₀ s₀ good).whole) (q.words z) t)

  pub back_and_there : FromTilesPromise m n r s b₀ s₀ 0 b₁ s₁ → ToTilesPromise m n r s b₁ t₁ k b₂ t₂ → (k ≡ 0) × (b₂ ≡ b₀)
  back_and_there p q =
      let good = sym p.number_is in
      let t = p.words refl in
      let c = ok m n r s b₀ s₀ good in
      let z = q.number_is ∙ passes_again m n r s b₀ b₁ s₀ t₁ good (sym t.same) room in
      (z, one_tiled (sym t.same ∙ c.whole) c.high c.step (q.words z) t)

-- a tile at least as wide as the block leaves every word in place, either way
pub wide_to : (m n r s : ℕ) {b₀ s₀ b sc : List ℕ} → n ≤ s → ToTilesPromise m n r s b₀ s₀ 0 b sc → b ≡ b₀
wide_to m n r s {b₀} {s₀} wide p =
    let c = ok m n r s b₀ s₀ (sym p.number_is) in
    wide_stays c.whole c.high c.step wide (p.words refl)

pub wide_from : (m n r s : ℕ) {b₀ s₀ b sc : List ℕ} → n ≤ s → FromTilesPromise m n r s b₀ s₀ 0 b sc → b ≡ b₀
wide_from m n r s {b₀} {s₀} wide p =
    let c = ok m n r s b₀ s₀ (sym p.number_is) in
    let t = p.words refl in
    sym (wide_stays (sym t.same ∙ c.whole) c.high c.step wide t)

-- a tile taller than the block leaves the words that one as tall leaves, either way
pub tall_to : (m n r s : ℕ) {b₀ s₀ b sc s₀' b' sc' : List ℕ} → m ≤ r
    → ToTilesPromise m n r s b₀ s₀ 0 b sc → ToTilesPromise m n m s b₀ s₀' 0 b' sc' → b ≡ b'
tall_to m n r s {b₀} {s₀' = s₀'} tall p q = one_to m n m s b₀ s₀' (sym q.number_is) _ _ (tall_same tall (p.words refl)) (q.words refl)

pub tall_from : (m n r s : ℕ) {b₀ s₀ b sc s₀' b' sc' : List ℕ} → m ≤ r
    → FromTilesPromise m n r s b₀ s₀ 0 b sc → FromTilesPromise m n m s b₀ s₀' 0 b' sc' → b ≡ b'
tall_from m n r s {b₀} {s₀' = s₀'} tall p q = one_from m n m s b₀ s₀' (sym q.number_is) _ _ (tall_same tall (p.words refl)) (q.words refl)
