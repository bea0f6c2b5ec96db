-- One step of a walk: what a loop carries from place to place. A remainder below twice the modulus is a test and a difference.
use Rattle.lists.proofs.Kit.{◌≡◌, sym, ap, ◌∙◌, ℕ, ◌+◌, ◌*◌, ◌-◌, ◌/◌, ◌%◌, ◌<◌, ◌≤◌, arith, mul-le-mul_left, mul-add, mul-one, mod-lt, mod-eq_of_lt, mod-eq-sub-mod, mod-add-mod, add-mod-mod, add-mul, mul_comm, zero-mul, add-zero, one-mul, add_assoc, div-add-mod', mul_right_comm, mul-add-mod_self_right}
use Rattle.walks.specs.PrivateWalk.{walk}

-- the next place, where the step does not reach the modulus and where it does
pub short_of : (place step modulus : ℕ) → step ≤ modulus → place < modulus - step → place + step ≡ (place + step) % modulus
short_of place step modulus k h = sym (mod-eq_of_lt (omega arith))

pub past : (place step modulus : ℕ) → place < modulus → step ≤ modulus → modulus - step ≤ place → place - (modulus - step) ≡ (place + step) % modulus
past place step modulus p k h =
    let e : place + step - modulus ≡ place - (modulus - step) = omega arith in
    sym (mod-eq-sub-mod (omega arith) ∙ mod-eq_of_lt (omega arith) ∙ e)

module _ (start step modulus : ℕ) where
  pub walk_start : start < modulus → walk start step modulus 0 ≡ start
  unfolding walk
  walk_start h = ap (λ (z : ℕ). z % modulus) (ap (λ (z : ℕ). start + z) (zero-mul step) ∙ add-zero start) ∙ mod-eq_of_lt h

  -- the next place is the last plus the step, modulo the modulus
  pub walk_more : (t : ℕ) → walk start step modulus (t + 1) ≡ (walk start step modulus t + step) % modulus
  unfolding walk
  walk_more t =
      ap (λ (z : ℕ). z % modulus) (ap (λ (z : ℕ). start + z) (add-mul t 1 step ∙ ap (λ (z : ℕ). t * step + z) (one-mul step)) ∙ sym (add_assoc start (t * step) step))
      ∙ sym (mod-add-mod (start + t * step) modulus step)

  pub walk_lt : (t : ℕ) → 0 < modulus → walk start step modulus t < modulus
  unfolding walk
  walk_lt t h = mod-lt (start + t * step) h

  -- start and step may be reduced first
  pub walk_reduced : (t : ℕ) → walk start step modulus t ≡ walk (start % modulus) (step % modulus) modulus t
  unfolding walk
  walk_reduced t =
      sym (mod-add-mod start modulus (t * step))
      ∙ sym (add-mod-mod (start % modulus) (t * step) modulus)
      ∙ ap (λ (z : ℕ). (start % modulus + z) % modulus) reduced
      ∙ add-mod-mod (start % modulus) (t * (step % modulus)) modulus
    where
      reduced : (t * step) % modulus ≡ (t * (step % modulus)) % modulus
      reduced =
          ap (λ (z : ℕ). z % modulus) (mul_comm t step ∙ ap (λ (z : ℕ). z * t) (sym (div-add-mod' step modulus)) ∙ add-mul (step / modulus * modulus) (step % modulus) t
          ∙ ap (λ (z : ℕ). z + step % modulus * t) (mul_right_comm (step / modulus) modulus t))
          ∙ mul-add-mod_self_right (step / modulus * t) modulus (step % modulus * t)
          ∙ ap (λ (z : ℕ). z % modulus) (mul_comm (step % modulus) t)

  -- a walk that does not come to its modulus goes straight on
  pub walk_straight : (t size : ℕ) → start + step * size < modulus + step → t < size → walk start step modulus t ≡ start + step * t
  unfolding walk
  walk_straight t size h d =
      let up : step * (t + 1) ≤ step * size = mul-le-mul_left step (omega arith) in
      ap (λ (z : ℕ). (start + z) % modulus) (mul_comm t step) ∙ mod-eq_of_lt (omega (arith, mul-add step t 1, mul-one step))
