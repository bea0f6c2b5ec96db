-- One outcome of the step over a lent record and of the tick of the C interface, over their clauses as the checker reads them beside its own logic.
use seplogic.Ra.Ura.{Ura}
use base.Logic.{SProp}
use prog.Memory.{Memory}
use prog.Routine.{Routine}
use types.Logic.{Logic}
use contract.Monad.{Fun}
use Rattle.refusals.proofs.Numbers.{one_bare}
use Rattle.passes.proofs as passes
use Rattle.passes.specs.contracts.step as step
use Rattle.exports.specs.contracts.zib_tick as zib_tick
use Rattle.outcomes.specs.Once.{OnceWalked}
use Rattle.outcomes.proofs.Once.{both}

module _ {M : Type 1} {𝓤 : Ura M} (𝓛 : Logic 𝓤) (mem : Memory → SProp 𝓤) (run : Routine → Fun 𝓤) where
  pub step_once : OnceWalked 𝓤 step.ended (step.clauses 𝓛 mem run)
  step_once κs a g x y u v = both 𝓤 (λ p q. let (number, lines, b, s) = passes.StepOutcome.step_once p q in (one_bare x y number, λ i. (b i, (s i, (lines i, _)))))

  pub tick_once : OnceWalked 𝓤 zib_tick.ended (zib_tick.clauses 𝓛 mem run)
  tick_once κs a g x y u v = both 𝓤 (λ p q. let (number, lines, b, s) = passes.StepOutcome.step_once p q in (number, λ i. (b i, (s i, (lines i, _)))))
