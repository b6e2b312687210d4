-- A block that is entered below the limit, and one too many.
use Rattle.std.proofs.Common.{◌≡◌, ℕ, ◌<◌, ◌≤◌, ◌∷◌, length, ap, sym, ◌∙◌, None, true, false, arith}
use Rattle.std.specs.Prelude.{nat_lt, if◌then◌else◌}
use Rattle.std.proofs.lemmas.Bool.Decides.{nat_tests}
use Rattle.pli_meaning.specs.declared.outcome.End.TheVariants as E
use Rattle.pli_meaning.specs.declared.outcome.Limit.TheVariants as L
use Rattle.pli_serving.specs.ActsAndEnds.{run_ended}
use Rattle.pli_serving.specs.Answers.{Done}
use Rattle.pli_serving.specs.Blocks as B
use Rattle.pli_serving.specs.Blocks.{activation_of}
use Rattle.pli_serving.specs.Finding.{Call}
use Rattle.pli_serving.specs.ServiceState.{Activation}
use Rattle.pli_activations.specs.Entered.{block_shown}
use Rattle.pli_activations.specs.declared.block.Block.{Block}
use Rattle.pli_services.specs.Entering.{entered_as}

pub entered_so : (c : Call) (kind frame line texts : ℕ) (e : B.Entered) (block : Block) → length c.services.activations < 500 → block_shown block ≡ activation_of c.services e frame texts → entered_as c kind frame line texts e ≡ Done (record c.services { activations = block_shown block ∷ c.services.activations; waiting = None; line = line }) c.memory kind frame
entered_so c kind frame line texts e block h b =
    let below : nat_lt (length c.services.activations) 500 ≡ true = grind (arith, nat_tests) in
    ap (λ t. if t then Done (record c.services { activations = activation_of c.services e frame texts ∷ c.services.activations; waiting = None; line = line }) c.memory kind frame else run_ended (E.Limit L.Depth) c.services) below
    ∙ ap (λ (a : Activation). Done (record c.services { activations = a ∷ c.services.activations; waiting = None; line = line }) c.memory kind frame) (sym b)

pub too_many : (c : Call) (kind frame line texts : ℕ) (e : B.Entered) → 500 ≤ length c.services.activations → entered_as c kind frame line texts e ≡ run_ended (E.Limit L.Depth) c.services
too_many c kind frame line texts e h =
    let above : nat_lt (length c.services.activations) 500 ≡ false = grind (arith, nat_tests) in
    ap (λ t. if t then Done (record c.services { activations = activation_of c.services e frame texts ∷ c.services.activations; waiting = None; line = line }) c.memory kind frame else run_ended (E.Limit L.Depth) c.services) above
