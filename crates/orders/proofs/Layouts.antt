-- The laws of layouts at the orders that chains name. Each is a law of crate layout, since a chain run backwards undoes its order.
use Rattle.lists.proofs.Kit.{◌≡◌, sym, subst, List, ◌++◌, reverse, ℕ, ◌≤◌, length}
use Rattle.layout.specs.Layout.{volume, pick, Laid, laid, Below}
use Rattle.layout.proofs.Laws.{after, home, one_layout, laid_is}
use Rattle.orders.specs.Chains.{named}
use Rattle.orders.proofs.Chains.{length-named, below_named, joined, undoes}

module _ {r : ℕ} (ds : List ℕ) (axes : length ds ≡ r) where
  -- a layout keeps the volume
  pub chain_volume : (c : List ℕ) → volume (pick (named r c) ds) ≡ volume ds
  chain_volume c = (undoes r c).keeps ds axes

  -- one chain after another is the joined chain
  pub chain_joined : (s t : List ℕ) {xs ys zs : List ℕ} → Laid ds (named r s) xs ys → Laid (pick (named r s) ds) (named r t) ys zs → Laid ds (named r (s ++ t)) xs zs
  chain_joined s t f g =
      rw (joined r s t)
      (after
      (subst (λ (n : ℕ). Below n (named r s)) (sym axes) (below_named r s))
      (subst (λ (n : ℕ). Below n (named r t)) (sym (length-named r s)) (below_named r t))
      (chain_volume s)
      f
      g)

  -- the chain run backwards brings every word home
  pub chain_home : (c : List ℕ) {xs ys : List ℕ} → Laid ds (named r c) xs ys → Laid (pick (named r c) ds) (named r (reverse c)) ys xs
  chain_home c f = home ds (undoes r c) axes f

  -- two outcomes of one chain are equal
  pub chain_once : (c : List ℕ) {xs ys zs : List ℕ} → Laid ds (named r c) xs ys → Laid ds (named r c) xs zs → ys ≡ zs
  chain_once c f g = one_layout ds (undoes r c) axes f g

  -- the computed layout of a chain is its layout
  pub chain_laid : (c xs : List ℕ) → volume ds ≤ length xs → Laid ds (named r c) xs (laid ds (named r c) xs)
  chain_laid c xs fits = laid_is ds (undoes r c) axes xs fits
