-- What stands at each place, taken twice: orders compose, and an order that another undoes brings every list home.
use Rattle.lists.proofs.Kit.{◌≡◌, refl, sym, ap, ap₂, ◌∙◌, subst, Bool, true, false, cond, List, [], ◌∷◌, map, ℕ, zero, suc, ◌<◌, zero-le, suc-le-suc, arith, not-suc-le-zero, le_of_suc-le-suc, eqb, length, get_or, length-map, ext_get_or, eqb-true, eqb-false, tab, upto, length-tab, get_or-tab, map-tab, tab-get_or}
use Rattle.layout.specs.Layout.{Within, pick, place_of, places, Below, Undone}
use Rattle.layout.specs.Layout.Within.{none, more}
use Rattle.layout.specs.Layout.Below.{empty, next}

pub below_at : {n : ℕ} {o : List ℕ} → Below n o → (k : ℕ) → k < length o → get_or o k 0 < n
below_at empty k h = absurd (not-suc-le-zero h)
below_at (next a b) zero h = a
below_at (next a b) (suc k) h = below_at b k (le_of_suc-le-suc h)

pub length-pick : (o l : List ℕ) → length (pick o l) ≡ length o
unfolding pick
length-pick o l = length-map o (λ a. get_or l a 0)

get_d_map : (f : ℕ → ℕ) (l : List ℕ) (k : ℕ) → k < length l → get_or (map f l) k 0 ≡ f (get_or l k 0)
get_d_map f [] k h = absurd (not-suc-le-zero h)
get_d_map f (x ∷ l) zero h = refl
get_d_map f (x ∷ l) (suc k) h = get_d_map f l k (le_of_suc-le-suc h)

-- what stands at place k under the order o
pub pick_at : (o l : List ℕ) (k : ℕ) → k < length o → get_or (pick o l) k 0 ≡ get_or l (get_or o k 0) 0
unfolding pick
pick_at o l k h = get_d_map (λ a. get_or l a 0) o k h

picked_twice : (o₁ l o₂ : List ℕ) → Below (length o₁) o₂ → pick o₂ (pick o₁ l) ≡ pick (pick o₂ o₁) l
unfolding pick
picked_twice o₁ l o₂ empty = refl
picked_twice o₁ l o₂ (next {a} {o} h b) = ap₂ ◌∷◌ (get_d_map _ o₁ a h) (picked_twice o₁ l o b)

pub pick-pick : (o₂ o₁ l : List ℕ) → Below (length o₁) o₂ → pick o₂ (pick o₁ l) ≡ pick (pick o₂ o₁) l
pick-pick o₂ o₁ l b = picked_twice o₁ l o₂ b

pub pick-upto : (l : List ℕ) → pick (upto (length l)) l ≡ l
unfolding pick
pick-upto l = map-tab (λ a. get_or l a 0) (length l) (λ k. k) ∙ tab-get_or l

within_at : {ds x : List ℕ} (a : ℕ) → Within ds x → a < length ds → get_or x a 0 < get_or ds a 0
within_at a none h = absurd (not-suc-le-zero h)
within_at zero (more h w) k = h
within_at (suc a) (more h w) k = within_at a w (le_of_suc-le-suc k)

pub within_pick : {ds o x : List ℕ} → Below (length ds) o → Within ds x → Within (pick o ds) (pick o x)
unfolding pick
within_pick empty w = none
within_pick (next {a} h b) w = more (within_at a w h) (within_pick b w)

-- an order, then the one that undoes it
pub undone : {r : ℕ} (o l : List ℕ) {p : List ℕ} → length o ≡ r → length l ≡ r → Below r p → pick p o ≡ upto r → pick p (pick o l) ≡ l
undone {r} o l {p} e d b h =
    pick-pick p o l (subst (λ (n : ℕ). Below n p) (sym e) b)
    ∙ ap (λ (q : List ℕ). pick q l) (h ∙ ap upto (sym d))
    ∙ pick-upto l

-- a search finds what is there
found_at : (a b : ℕ) (l : List ℕ) (t : Bool) → eqb a b ≡ t → place_of a (b ∷ l) ≡ cond t 0 (suc (place_of a l))
unfolding place_of
found_at a b l t q = ap (λ (s : Bool). cond s 0 (suc (place_of a l))) q

abbrev pub Found : ℕ → List ℕ → Type 0
Found a l = (place_of a l < length l) × (get_or l (place_of a l) 0 ≡ a)

finds_step : (a b : ℕ) (l : List ℕ) → ((i : ℕ) → i < length l → get_or l i 0 ≡ a → Found a l) → (t : Bool) → eqb a b ≡ t
    → (i : ℕ) → i < length (b ∷ l) → get_or (b ∷ l) i 0 ≡ a → Found a (b ∷ l)
finds_step a b l ih true q i h e = rw (found_at a b l true q) (suc-le-suc zero-le, sym (eqb-true a b q))
finds_step a b l ih false q zero h e = absurd (eqb-false a b q (sym e))
finds_step a b l ih false q (suc i) h e = rw (found_at a b l false q) (let f = ih i (le_of_suc-le-suc h) e in (suc-le-suc f.0, f.1))

pub finds : (a : ℕ) (l : List ℕ) (i : ℕ) → i < length l → get_or l i 0 ≡ a → Found a l
finds a [] i h e = absurd (not-suc-le-zero h)
finds a (b ∷ l) i h e = finds_step a b l (finds a l) (eqb a b) refl i h e

-- the places of the axes are the order that undoes it
pub places_undo : {r : ℕ} {o p : List ℕ} → Undone r o p → places o ≡ p
unfolding places
places_undo {r} {o} {p} u =
    ext_get_or 0 (tab (length o) (λ a. place_of a o)) p (length-tab (length o) (λ a. place_of a o) ∙ u.long ∙ sym u.long')
    (λ a h.
    let k : a < length o = rw (length-tab (length o) (λ b. place_of b o)) at h in
    let k' : a < length p = omega (arith, u.long, u.long') in
    let there : get_or o (get_or p a 0) 0 ≡ a = sym (pick_at p o a k') ∙ ap (λ (l : List ℕ). get_or l a 0) u.there ∙ get_or-tab r (λ b. b) a 0 (omega (arith, u.long)) in
    let f = finds a o (get_or p a 0) (rw u.long (below_at u.below' a k')) there in
    get_or-tab (length o) (λ b. place_of b o) a 0 k
    ∙ sym (get_or-tab r (λ b. b) (place_of a o) 0 (omega (arith, u.long, f.0)))
    ∙ ap (λ (l : List ℕ). get_or l (place_of a o) 0) (sym u.back)
    ∙ pick_at o p (place_of a o) f.0
    ∙ ap (λ (z : ℕ). get_or p z 0) f.1)
