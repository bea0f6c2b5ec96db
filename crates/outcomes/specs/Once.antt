-- One outcome, said once for every contract: any two outcomes that it allows from one entry coincide, the answer and all that is lent to be changed. What
-- is lent is the checker's own list of last values, one for each such parameter, so that none can be left out. Assumes nothing: these are definitions.
use Rattle.std.specs.Prelude.{◌≡◌, List, ℕ}
use seplogic.Ra.Ura.{Ura}
use Rattle.std.specs.Borrow.{GName, MutBor}
use base.Logic.{ent, sep}
use contract.Lifetimes.{Lfts}
use contract.Monad.{fact}
use denote.Triple.Entry.{Args, Res}
use denote.Triple.Clauses.{Ended, Clauses, Lasts, at_exit}
use borrow.Fn.Kinds.{ParamKind, ResultKind, Out, Dens, GoodsP, res_t, ended_of}

-- two outcomes that a contract allows from one entry, as the checker reads it: the arguments, of which it has its own facts, two results, and twice the
-- last values
pub record Two {n : ℕ} (ps : List (ParamKind n)) (r : ResultKind n) (Post : Out n ps r) : Type 0 where
  pub κs : Lfts n
  pub args : Dens κs ps
  pub good : GoodsP κs ps args
  pub x : (res_t r κs).Denot
  pub y : (res_t r κs).Denot
  pub u : Lasts (ended_of n ps r) κs args
  pub v : Lasts (ended_of n ps r) κs args
  pub first : Post κs args x (at_exit (ended_of n ps r) κs args u)
  pub second : Post κs args y (at_exit (ended_of n ps r) κs args v)

-- the two are one
abbrev pub Once : {n : ℕ} (ps : List (ParamKind n)) (r : ResultKind n) → Out n ps r → Type 0
Once ps r Post = (t : Two ps r Post) → (t.x ≡ t.y) × (t.u ≡ t.v)

-- a reference under another ghost name: where it points and what stands there are all that a program can see of it
abbrev pub under : {X : Type 0} → GName → MutBor X → MutBor X
under name x = record { ref_ptr = x.ref_ptr; ghost_name = name; now = x.now }

-- The same over a function's clauses as the checker's own logic has them. What they ensure of one outcome, beside what they ensure of another, shows that
-- the two are one.
abbrev pub OnceWalked : {M : Type 1} (𝓤 : Ura M) (T : Ended) → Clauses 𝓤 T → Type 1
OnceWalked 𝓤 T clauses = (κs : Lfts T.signature.lifetimes) (a : Args T.signature κs) (g : (clauses κs a).ghost) (x y : Res T.signature κs) (u v : Lasts T κs a)
    → ent 𝓤 (sep 𝓤 ((clauses κs a).ensures g x (at_exit T κs a u)) ((clauses κs a).ensures g y (at_exit T κs a v))) (fact 𝓤 ((x ≡ y) × (u ≡ v)))
