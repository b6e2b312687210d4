-- What calls of an input that comes from a feed say of it as a stream.
use Rattle.std.proofs.Common.{◌≡◌, Bool, true, List, [], Result, Ok, Err, refl}
use Rattle.std.specs.Prelude.{MatchResult}
use Rattle.pli_meaning.specs.InputLines.{Input, Mark}
use Rattle.pli_edit.specs.KnownMarks.{known_from}
use Rattle.pli_edit.specs.Streams.{Fails, Follows, Goes, Held, Reaches, Tells}
use Rattle.pli_edit.specs.ReadChains.{reads_shift}
use Rattle.pli_edit.specs.declared.fault.EditFault.{EditFault}
use Rattle.pli_edit.specs.declared.fault.EditFault.TheVariants as E

goes_follows : (w : List Mark → Bool) (claim : List Mark → List Mark → Type 0) (a b : Held) →
    Goes w claim a.marked b.marked → Follows a b
goes_follows w claim a b h = (
  h.readings,
  reads_shift (λ p. w (known_from a.marked.lines p)) (λ _. true) a.marked.pending [] h.readings a.marked.fed
      b.marked.fed (λ _ _ _. refl) h.reads,
)

-- ---- calls that answer Read or nothing wrong

abbrev Matched : {A : Type 0} → (w : List Mark → Bool) → (claim : A → Input → Input → Type 0) → Result A EditFault →
    Held → Held → Type 0
Matched w claim r a b = MatchResult r (λ x. Reaches w (claim x) a b) (λ e. (e ≡ E.Read) × Fails w a b)

pub matched_follows : {A : Type 0} (w : List Mark → Bool) (claim : A → Input → Input → Type 0)
    (r : Result A EditFault) (a b : Held) → Matched w claim r a b → Follows a b
matched_follows w claim (Ok x) a b h = goes_follows w _ a b h.0
matched_follows w claim (Err e) a b h = goes_follows w _ a b h.1.0

-- ---- calls that answer other faults too

pub tells_follows : {A : Type 0} (w : List Mark → Bool) (claim : Input → Input → Type 0) (r : Result A EditFault)
    (a b : Held) → Tells w claim r a b → Follows a b
tells_follows w claim (Ok x) a b h = goes_follows w _ a b h.0
tells_follows w claim (Err E.AtEnd) a b h = goes_follows w _ a b h.0
tells_follows w claim (Err E.TooWide) a b h = goes_follows w _ a b h.0
tells_follows w claim (Err E.NotNumber) a b h = goes_follows w _ a b h.0
tells_follows w claim (Err E.Read) a b h = goes_follows w _ a b h.0
tells_follows w claim (Err E.Write) a b h = goes_follows w _ a b h.0
tells_follows w claim (Err E.Memory) a b h = goes_follows w _ a b h.0
