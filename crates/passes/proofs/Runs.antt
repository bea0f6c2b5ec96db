-- Runs of a line into scratch: the numbers fit, a run that does not come round is a copy, and a line that was lifted and put back has moved.
use Rattle.lists.proofs.Kit.{◌≡◌, sym, ap, ◌∙◌, Bool, true, false, cond, List, ⊎_elim, ℕ, ◌+◌, ◌*◌, ◌-◌, ◌<◌, ◌≤◌, mul-le-mul_left, mul-add, mul_assoc, mul-one, arith, length, get_or, lt-or-ge}
use Rattle.walks.proofs.Steps.{walk_straight, walk_lt}
use Rattle.passes.specs.Lines.{pos_on}
use Rattle.passes.specs.PrivateScratch.{Apart, Lain, CanCopy, Copied, goes_to}
use Rattle.passes.specs.PrivateWalks.{place_at, Walks, Ahead, steps, RunFits, RunLifted}
use Rattle.passes.specs.declared.line.Line.{Line}
use Rattle.passes.specs.declared.line.Strides.{Strides}
use Rattle.passes.specs.declared.walk.Place.{Place}
use Rattle.passes.specs.declared.walk.Run.{Run}
use Rattle.passes.specs.declared.walk.Walk.{Walk}
use Rattle.passes.proofs.Filled.{filled_as}

-- a line lies in lists of the same lengths
pub lain_same : {l : Line} {xs scratch held : List ℕ} → length held ≡ length scratch → Lain l xs scratch → Lain l xs held
lain_same e a = record { inside = a.inside; step = a.step; room = rw e a.room; few = a.few; near = a.near; front = a.front }

module _ {l : Line} {w : Walk} {r : Run} {xs scratch : List ℕ} (a : Lain l xs scratch) (f : RunFits w l.count r) where
  -- a run that does not come round: its places, and where they stand
  module _ (h : r.place + w.step * r.size < w.modulus + w.step) where
    pub plain_place : (t : ℕ) → t < r.size → steps w r.place t ≡ r.place + w.step * t
    plain_place t d = walk_straight r.place w.step w.modulus t r.size h d

    pub plain_low : (t : ℕ) → t < r.size → r.place + w.step * t < l.count
    plain_low t d = let up : w.step * (t + 1) ≤ w.step * r.size = mul-le-mul_left w.step (omega arith) in omega (arith, f.round, mul-add w.step t 1, mul-one w.step)

    pub plain_at : (t : ℕ) → t < r.size → pos_on l (steps w r.place t) ≡ pos_on l r.place + l.stride * w.step * t
    plain_at t d =
        ap (pos_on l) (plain_place t d) ∙ omega (arith, mul-add l.stride r.place (w.step * t), mul_assoc l.stride w.step t)

    pub plain_apart : Apart (λ t. r.place + w.step * t) r.size
    plain_apart i j hi hj e = f.apart i j hi hj (plain_place i hi ∙ e ∙ sym (plain_place j hj))

  -- the words of the line from `from` on
  pub on_at : (t : ℕ) → pos_on l (r.from + t) ≡ pos_on l r.from + l.stride * t
  on_at t = omega (arith, mul-add l.stride r.from t)

-- the places of a run, home or not: where its words come from, and the different places of scratch that they go to
module _ {l : Line} {w : Walk} {r : Run} {xs scratch : List ℕ} (a : Lain l xs scratch) (f : RunFits w l.count r) where
  walk_low : (t : ℕ) → steps w r.place t < l.count
  walk_low t = omega (arith, walk_lt r.place w.step w.modulus t (omega (arith, f.low)), f.round)

  pub taken_low : (home : Bool) (t : ℕ) → t < r.size → cond home (r.from + t) (steps w r.place t) < l.count
  taken_low true t h = omega (arith, f.on_line)
  taken_low false t h = walk_low t

  pub put_low : (home : Bool) (t : ℕ) → t < r.size → cond home (steps w r.place t) (r.from + t) < l.count
  put_low true t h = walk_low t
  put_low false t h = omega (arith, f.on_line)

  pub put_apart : (home : Bool) → Apart (λ t. cond home (steps w r.place t) (r.from + t)) r.size
  put_apart true = f.apart
  put_apart false = λ i j _ _ e. omega arith

  -- one that does not come round is copied
  module _ (h : r.place + w.step * r.size < w.modulus + w.step) where
    abbrev pub strides : Bool → Strides
    strides home = record {
      from = pos_on l (cond home r.from r.place);
      gap = l.stride * cond home 1 w.step;
      to = cond home r.place r.from;
      step = cond home w.step 1;
      size = r.size;
    }

    each : (t : ℕ) → pos_on l (r.from + t) ≡ pos_on l r.from + l.stride * 1 * t
    each t = on_at a f t ∙ ap (λ (z : ℕ). pos_on l r.from + z * t) (sym (mul-one l.stride))

    pub plain_copy : (home : Bool) → CanCopy (strides home) xs scratch
    plain_copy true = record {
      reads = λ t d. rw (← each t) (a.inside _ (omega (arith, f.on_line)));
      stores = λ t d. omega (arith, plain_low a f h t d, a.room);
      apart = plain_apart a f h;
    }
    plain_copy false = record {
      reads = λ t d. rw (← plain_at a f h t d) (a.inside _ (rw (plain_place a f h t d) (plain_low a f h t d)));
      stores = λ t d. omega (arith, f.on_line, a.room);
      apart = λ i j _ _ e. omega arith;
    }

    pub copied_run : (home : Bool) {before after : List ℕ} → Copied (strides home) xs before after → RunLifted l w home r xs before after
    copied_run true c = filled_as (λ t d. plain_place a f h t d) (λ t d. ap (λ (z : ℕ). get_or xs z 0) (each t)) c
    copied_run false c = filled_as (λ t d. omega arith) (λ t d. ap (λ (z : ℕ). get_or xs z 0) (plain_at a f h t d)) c

-- a run ends with its group at the latest
pub ahead_le : {w : Walk} {p : Place} {r : ℕ} → p.group < w.size → Ahead w p r → p.group + r ≤ w.size
ahead_le {w} {p} {r} h a =
    ⊎_elim
    (λ (d : w.size < p.group + r). let t = w.size - p.group - 1 in absurd ((a.free t (omega arith)).0 (omega arith)))
    (λ (d : p.group + r ≤ w.size). d)
    (lt-or-ge w.size (p.group + r))

-- what goes home goes to different places of the line, and so does what stands
module _ {w : Walk} {first : Place} {count : ℕ} (y : Walks w first count) where
  pub goes_apart : (home : Bool) → Apart (goes_to home (place_at w first)) count
  goes_apart true = y.apart
  goes_apart false = λ i j _ _ e. e
