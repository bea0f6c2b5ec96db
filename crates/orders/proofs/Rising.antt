-- An order in which every label stands before its follower is 0, 1, ..: the places of its labels rise and stay below r,
-- so place a is a, and the order that undoes it is 0, 1, .. .
use Rattle.lists.proofs.Kit.{◌≡◌, sym, ap, ◌∙◌, List, reverse, ℕ, zero, suc, ◌+◌, ◌-◌, ◌<◌, ◌≤◌, zero-le, arith, tab, upto, get_or-tab, tab_ext}
use Rattle.layout.specs.Layout.{pick, place_of, places}
use Rattle.layout.proofs.Picks.{below_at, pick-upto, places_undo}
use Rattle.orders.specs.Chains.{named}
use Rattle.orders.proofs.Chains.{length-named, below_named, named_home, undoes}
use Rattle.orders.proofs.Falling.{follower_after}

-- r numbers that rise and stay below r
module _ (r : ℕ) (p : ℕ → ℕ) (rise : (a : ℕ) → suc a < r → p a < p (suc a)) (small : (a : ℕ) → a < r → p a < r) where
  no_lower : (a : ℕ) → a < r → a ≤ p a
  no_lower zero h = zero-le
  no_lower (suc a) h = omega (arith, no_lower a (omega arith), rise a h)

  no_higher : (n a : ℕ) → n + a < r → p a + n < r
  no_higher zero a h = omega (arith, small a (omega arith))
  no_higher (suc n) a h = omega (arith, no_higher n (suc a) (omega arith), rise a (omega arith))

  fixed : (a : ℕ) → a < r → p a ≡ a
  fixed a h = omega (arith, no_lower a h, no_higher (r - suc a) a (omega arith))

module _ (r : ℕ) (c : List ℕ) where
  -- the places of the labels are the order that the chain run backwards names
  placed : tab r (λ a. place_of a (named r c)) ≡ named r (reverse c)
  unfolding places
  placed = ap (λ (n : ℕ). tab n (λ a. place_of a (named r c))) (sym (length-named r c)) ∙ places_undo (undoes r c)

  place_below : (a : ℕ) → a < r → place_of a (named r c) < r
  place_below a h =
      rw (← get_or-tab r (λ b. place_of b (named r c)) a 0 h, placed)
      (below_at (below_named r (reverse c)) a (omega (arith, length-named r (reverse c))))

  -- no follower stands before its label
  pub rising : ((a : ℕ) → suc a < r → place_of a (named r c) ≤ place_of (suc a) (named r c)) → named r c ≡ upto r
  rising ordered =
      let backwards : named r (reverse c) ≡ upto r =
      sym placed
      ∙ tab_ext r (λ a. place_of a (named r c)) (λ a. a)
      (fixed r (λ a. place_of a (named r c)) (λ a h. follower_after r a c h (ordered a h)) place_below) in
      sym (pick-upto (named r c))
      ∙ ap (λ (n : ℕ). pick (upto n) (named r c)) (length-named r c)
      ∙ ap (λ (o : List ℕ). pick o (named r c)) (sym backwards)
      ∙ named_home r c
