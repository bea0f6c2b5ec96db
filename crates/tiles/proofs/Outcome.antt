-- The outcome of an accepted conversion: the block goes into tiles from tiles as wide as itself, which are its rows, or out of tiles into these.
use Rattle.lists.proofs.Kit.{◌≡◌, sym, ◌∙◌, List, ◌⊎◌, inl, inr, ℕ, ◌<◌, ◌≤◌, arith}
use Rattle.refusals.specs.FirstOf.{first_of}
use Rattle.refusals.proofs.Promise.{accepted}
use Rattle.lists.proofs.Words.{same_word}
use Rattle.tiles.specs.Promises.{tile_checks}
use Rattle.tiles.specs.Private.{Converts, Retiled, Converted}
use Rattle.tiles.specs.PrivateWay.{tiling_of, WayTiled, WayPromise}
use Rattle.tiles.specs.declared.Way.{Way}
use Rattle.tiles.specs.declared.Way.TheVariants.{Into, OutOf}
use Rattle.tiles.proofs.Accepted.{Accepted, tiles_accepted}
use Rattle.tiles.proofs.Places.{wide_place}

-- the words of the block's rows stand where those of its tiles do, one way or the other
retiled : (m n r s : ℕ) (way : Way) {xs ys : List ℕ} → Retiled (tiling_of way m n r s) xs ys → WayTiled way m n r s xs ys
retiled m n r s Into {xs} c = record {
  same = c.same;
  placed = λ i j row low. c.placed i j row low ∙ same_word xs (wide_place m n r n i j (omega arith) low);
}
retiled m n r s OutOf {ys = ys} c = record {
  same = sym c.same;
  placed = λ i j row low. sym (c.placed i j row low) ∙ same_word ys (wide_place m n r n i j (omega arith) low);
}

module _ (m n r s : ℕ) {b₀ s₀ : List ℕ} (good : first_of (tile_checks m n r s b₀ s₀) ≡ 0) where
  ok : Accepted m n r s b₀ s₀
  ok = tiles_accepted m n r s b₀ s₀ good

  converts : (from to : ℕ) → 0 < from → 0 < to → from ≤ 4096 → (n ≤ from) ⊎ (n ≤ to) → Converts (record { rows = m; columns = n; height = r; from = from; to = to }) b₀ s₀
  converts from to before afterwards near wide = record {
    high = ok.high;
    low = ok.low;
    before = before;
    afterwards = afterwards;
    near = near;
    whole = wide;
    tall = ok.tall;
    few = ok.few;
    exact = ok.whole;
    room = ok.room;
  }

  pub converts_by : (way : Way) → Converts (tiling_of way m n r s) b₀ s₀
  converts_by Into = converts n s ok.some ok.step ok.wide (inl (omega arith))
  converts_by OutOf = converts s n ok.step ok.some (omega (arith, ok.narrow)) (inr (omega arith))

  pub outcome : (way : Way) {b after : List ℕ} → Converted (tiling_of way m n r s) b₀ b s₀ after → WayPromise way m n r s b₀ s₀ 0 b after
  outcome Into c = accepted good (retiled m n r s Into c.0) c.1
  outcome OutOf c = accepted good (retiled m n r s OutOf c.0) c.1
