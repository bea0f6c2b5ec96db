-- Lines of one pass moved one after the other: T families of Q words at the offsets pos t 0, pos t 1, .., no two families sharing an offset. After t of
-- them, those before t have moved, the others stand.
use Rattle.lists.proofs.Kit.{◌≡◌, refl, sym, ◌∙◌, List, ⊎_elim, ℕ, ◌+◌, ◌<◌, not-suc-le-zero, arith, get_or, eq-or-ne}
use Rattle.passes.specs.Lines.{Moved}
use Rattle.passes.specs.PrivateScratch.{Some}

pub record Family (T Q : ℕ) (pos to from : ℕ → ℕ → ℕ) : Type 0 where
  pub apart : (t k u j : ℕ) → t < T → k < Q → u < T → j < Q → pos t k ≡ pos u j → t ≡ u
  pub to_lt : (t k : ℕ) → t < T → k < Q → to t k < Q
  pub from_lt : (t k : ℕ) → t < T → k < Q → from t k < Q

-- the first t families stand still
pub some_still : (T Q : ℕ) (pos to from : ℕ → ℕ → ℕ) (t : ℕ) (xs : List ℕ) → ((u k : ℕ) → u < t → k < Q → to u k ≡ from u k) → Some T Q pos to from t xs xs
some_still T Q pos to from t xs e = record { same = refl; placed = λ u k h l. rw (e u k h l); left = λ u k h l d. refl; others = λ p h. refl }

pub some_none : (T Q : ℕ) (pos to from : ℕ → ℕ → ℕ) (xs : List ℕ) → Some T Q pos to from 0 xs xs
some_none T Q pos to from xs = some_still T Q pos to from 0 xs (λ u k h l. absurd (not-suc-le-zero h))

module _ {T Q : ℕ} {pos to from : ℕ → ℕ → ℕ} (f : Family T Q pos to from) where
  pub some_more : {t : ℕ} {xs ys zs : List ℕ} → t < T → Some T Q pos to from t xs ys → Moved Q (pos t) (to t) (from t) ys zs → Some T Q pos to from (t + 1) xs zs
  some_more {t} {xs} {ys} {zs} h s m = record {
    same = m.same ∙ s.same;
    placed = λ u k l d. ⊎_elim
        (λ (e : u ≡ t). rw e (m.placed k d ∙ s.left t (from t k) (omega arith) h (f.from_lt t k h d)))
        (λ (ne : u ≡ t → ⊥).
        elsewhere u (to u k) ne (omega arith) (f.to_lt u k (omega arith) d) ∙ s.placed u k (omega arith) d)
        (eq-or-ne u t);
    left = λ u k l a d. elsewhere u k (λ e. omega arith) a d ∙ s.left u k (omega arith) a d;
    others = λ p g. m.others p (λ k d e. g t k h d e) ∙ s.others p g;
  }
    where
      elsewhere : (u k : ℕ) → (u ≡ t → ⊥) → u < T → k < Q → get_or zs (pos u k) 0 ≡ get_or ys (pos u k) 0
      elsewhere u k ne a d = m.others (pos u k) (λ j b e. ne (sym (f.apart t j u k h b a d e)))
