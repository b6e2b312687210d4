-- What a call that may not read leaves of the input, and what a call that is refused shows.
use Rattle.std.proofs.Common.{◌≡◌, ◌≢◌, ℕ, Bool, true, false, ◌==◌, ◌&&◌, ◌||◌, List, Result, Ok, Err, sym, subst}
use Rattle.std.specs.Prelude.{MatchResult}
use Rattle.area_keeper.specs.Keeper.{Keeper}
use Rattle.pli_answering.specs.declared.reply.Reply.{Reply}
use Rattle.pli_answering.specs.declared.reply.Refusal.{Refusal}
use Rattle.pli_serving.specs.Answers.{Answer}
use Rattle.pli_serving.specs.Finding.{Call}
use Rattle.pli_serving.specs.ServiceState.{EditPlace}
use Rattle.pli_transmission.specs.Transmitting.{is_getting}
use Rattle.pli_runtime.proofs.Carried.{refused_shown}
use Rattle.pli_runtime.specs.Seen.{RunSeen, asks_input, IsCarriedOut}

-- ---- whether a call asks for input

first_asks : (b rest : Bool) → ((b && true) || rest) ≡ false → b ≡ false
first_asks true rest e = absurd cc
first_asks false rest e = cc

pub control_asks : (places : List EditPlace) (mode : ℕ) → asks_input places 35 mode ≡ false → is_getting places ≡ false
control_asks places mode e = first_asks (is_getting places) _ e

pub fixed_asks : (places : List EditPlace) (mode : ℕ) → asks_input places 36 mode ≡ false → is_getting places ≡ false
fixed_asks places mode e = first_asks (is_getting places) _ e

pub text_asks : (places : List EditPlace) (mode : ℕ) → asks_input places 37 mode ≡ false → is_getting places ≡ false
text_asks places mode e = first_asks (is_getting places) _ e

last_asks : (b : Bool) (mode : ℕ) → ((b && false) || (mode == 0)) ≡ false → mode ≢ 0
last_asks true mode e = λ zero. absurd (is_true (subst (λ n. (n == 0) ≡ false) zero e))
  where
    is_true : true ≡ false → ⊥
    is_true e = cc
last_asks false mode e = λ zero. absurd (is_true (subst (λ n. (n == 0) ≡ false) zero e))
  where
    is_true : true ≡ false → ⊥
    is_true e = cc

pub skip_asks : (places : List EditPlace) (mode : ℕ) → asks_input places 39 mode ≡ false → mode ≢ 0
skip_asks places mode e = last_asks (is_getting places) mode e

-- ---- replies

-- what is shown stays where a call is refused, and the memory
pub kept_with :
    (result : Result Reply Refusal) (whole shown same : Type 0) → MatchResult result (λ _. whole) (λ _. shown) → same →
    MatchResult result (λ _. whole) (λ _. shown × same)
kept_with (Ok reply) whole shown same h s = h
kept_with (Err refusal) whole shown same h s = (h, s)

-- of a call that leaves the input
pub kept_unread :
    {I : Type 0} (broken : I → Bool) (i i' : I) (k : Keeper) (service : Call → Answer) (r r' : RunSeen) (m m' : List ℕ)
    (result : Result Reply Refusal) → i' ≡ i → IsCarriedOut k service r m result r' m' →
    MatchResult result (λ _. broken i ≡ false → broken i' ≡ false)
    (λ _. (r'.flow.world ≡ r.flow.world) × (m' ≡ m))
kept_unread broken i i' k service r r' m m' (Ok reply) same done = λ h. subst (λ it. broken it ≡ false) (sym same) h
kept_unread broken i i' k service r r' m m' (Err refusal) same done = refused_shown k service r r' m m' refusal done
