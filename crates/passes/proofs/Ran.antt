-- Lines run one after the other, forwards or backwards, and cut where a pass ends.
use Rattle.lists.proofs.Kit.{◌≡◌, refl, sym, subst, List, ⊎_elim, ℕ, suc, ◌+◌, ◌<◌, ◌≤◌, arith, eq-or-lt_of_le, lt-suc_self}
use Rattle.passes.specs.Lines.{Moved}
use Rattle.passes.specs.PrivateScratch.{Some}
use Rattle.passes.proofs.Family.{Family, some_none, some_more}

-- the steps from number l up to, not including, number e lead from xs to ys
pub data Ran (Step : ℕ → List ℕ → List ℕ → Type 0) (e : ℕ) : ℕ → List ℕ → List ℕ → Type 0 where
  done : {xs : List ℕ} → Ran Step e e xs xs
  more : {l : ℕ} {xs ys zs : List ℕ} → l < e → Step l xs ys → Ran Step e (suc l) ys zs → Ran Step e l xs zs

-- run up to p, and from there
pub record Cut (Step : ℕ → List ℕ → List ℕ → Type 0) (e l p : ℕ) (xs zs : List ℕ) : Type 0 where
  pub mid : List ℕ
  pub front : Ran Step p l xs mid
  pub rest : Ran Step e p mid zs

module _ {Step : ℕ → List ℕ → List ℕ → Type 0} where
  -- one step more at the end
  pub ran_more : {e l : ℕ} {xs ys zs : List ℕ} → Ran Step e l xs ys → Step e ys zs → Ran Step (suc e) l xs zs
  ran_more {e} done s = more (lt-suc_self e) s done
  ran_more {e} (more {l = l} h t r) s = let k : l < suc e = omega arith in more k t (ran_more r s)

  pub cut : {e l : ℕ} {xs zs : List ℕ} (p : ℕ) → l ≤ p → p ≤ e → Ran Step e l xs zs → Cut Step e l p xs zs
  cut {e} p h k (done {xs}) = let q : p ≡ e = omega arith in subst (λ (z : ℕ). Cut Step e e z xs xs) (sym q) (record { mid = xs; front = done; rest = done })
  cut {e} p h k (more {l} {xs} {zs = zs} d s r) =
      ⊎_elim
      (λ (q : l ≡ p). subst (λ (z : ℕ). Cut Step e l z xs zs) q (record { mid = xs; front = done; rest = more d s r }))
      (λ (q : l < p). let c = cut p q k r in record { mid = c.mid; front = more q s c.front; rest = c.rest })
      (eq-or-lt_of_le h)

-- the steps from number o on are the families, one after the other
module _ (Step : ℕ → List ℕ → List ℕ → Type 0) (o : ℕ) {T Q : ℕ} {pos to from : ℕ → ℕ → ℕ} (f : Family T Q pos to from)
    (is : (t : ℕ) (xs ys : List ℕ) → t < T → Step (o + t) xs ys → Moved Q (pos t) (to t) (from t) xs ys) where
  ran_on : {e l : ℕ} {xs ys zs : List ℕ} (t : ℕ) → l ≡ o + t → e ≡ o + T → Some T Q pos to from t xs ys → Ran Step e l ys zs → Some T Q pos to from T xs zs
  ran_on {xs = xs} {ys} t a b s done = let q : t ≡ T = omega arith in subst (λ (z : ℕ). Some T Q pos to from z xs ys) q s
  ran_on {xs = xs} t a b s (more {l} {xs = ys} {ys = ws} h p r) =
      let k : t < T = omega arith in
      ran_on (t + 1) (omega arith) b (some_more f k s (is t ys ws k (subst (λ (z : ℕ). Step z ys ws) a p))) r

  pub ran_some : {xs zs : List ℕ} → Ran Step (o + T) o xs zs → Some T Q pos to from T xs zs
  ran_some {xs} r = ran_on 0 (omega arith) refl (some_none T Q pos to from xs) r
