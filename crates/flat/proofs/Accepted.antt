-- What the checks of a call that turns a flat block through scratch tell where none holds.
use Rattle.lists.proofs.Kit.{◌≡◌, ◌∙◌, List, [], ◌∷◌, ℕ, ◌*◌, ◌<◌, ◌≤◌, length}
use Rattle.refusals.specs.FirstOf.{check, first_of}
use Rattle.refusals.specs.Conditions.{short_scratch}
use Rattle.refusals.specs.Calls.{passes_checks}
use Rattle.refusals.specs.Scratch.{need}
use Rattle.refusals.proofs.Conditions.{Valid, InRange, valid, enough_scratch}
use Rattle.refusals.proofs.Conditions.InRange.{none, more}
use Rattle.flat.specs.Turn.{sides}
use Rattle.flat.proofs.Turn.{volume_two}

-- sides and buffers of a flat call that is accepted
pub record Accepted (m n : ℕ) (buffer scratch : List ℕ) : Type 0 where
  pub m_pos : 0 < m
  pub n_pos : 0 < n
  pub m_few : m ≤ 4096
  pub n_few : n ≤ 4096
  pub few : m * n ≤ 1048576
  pub exact : length buffer ≡ m * n
  pub room : need (sides m n) ≤ length scratch

pub flat_accepted : (m n : ℕ) (buffer scratch : List ℕ) → first_of (passes_checks (sides m n) buffer scratch) ≡ 0 → Accepted m n buffer scratch
flat_accepted m n buffer scratch e = go v.0.lengths
  where
    v : Valid (sides m n) buffer × (first_of (check 4 (short_scratch (need (sides m n)) scratch) ∷ []) ≡ 0)
    v = valid (sides m n) buffer (check 4 (short_scratch (need (sides m n)) scratch) ∷ []) e

    go : InRange (sides m n) → Accepted m n buffer scratch
    go (more pm fm (more pn fn none)) = record {
      m_pos = pm;
      n_pos = pn;
      m_few = fm;
      n_few = fn;
      few = rw (volume_two m n) at v.0.few;
      exact = v.0.exact ∙ volume_two m n;
      room = (enough_scratch (need (sides m n)) scratch [] v.1).0;
    }
