-- What a run has shown where it is cut off, at any instruction, is the front of what it shows with more instructions,
-- and, where the headline is proved, of what the program means at every number of acts from its own on.
use Rattle.std.specs.Prelude.{◌≡◌, ℕ, ◌^◌, ◌<◌, ◌≤◌, List, [], Some}
use Rattle.rv_meaning.specs.Machine.{IsValidBase}
use Rattle.rv_meaning.specs.Tables.{TableSignature}
use Rattle.pli_language.specs.declared.token.Token.{Token}
use Rattle.pli_language.specs.Tokens.{Tokens}
use Rattle.pli_language.specs.Tree as T
use Rattle.pli_language.specs.Parsing.{Spells}
use Rattle.pli_language.specs.Declaring.{declaring_faults}
use Rattle.pli_typing.specs.Resolving.{typing_faults, typed_tree}
use Rattle.pli_typing.specs.TypedTree as Y
use Rattle.pli_meaning.specs.Executing.{meaning}
use Rattle.pli_meaning.specs.Laws.{Extends}
use Rattle.pli_meaning.specs.Pictures.{Picture}
use Rattle.pli_meaning.specs.World.{World}
use Rattle.image_runs.specs.Runs.{run_of, shown_by, Run}
use Rattle.well_formed_trees.specs.WellFormed.{IsWellFormed}
use Rattle.pli_headline.specs.Headline.{Headline}

-- ---- runs of images

-- what a run by the number of instructions allowed shows is the front of what it shows with more of them
abbrev pub ShowsOn : (ℕ → Run) → Type 0
ShowsOn run =
    (n m : ℕ) (w v : World) → n ≤ m → shown_by (run n) ≡ Some w → shown_by (run m) ≡ Some v → Extends w v

-- what an image shows is the front of what it shows with more instructions
abbrev pub RunsContinue : Type 0
RunsContinue =
    (image : Picture) (signatures : List TableSignature) (base : ℕ) (input : List ℕ) →
    ShowsOn (run_of image signatures base input)

-- ---- meanings

-- a program's meaning is there with so many acts allowed, and begins with this world
pub record GoesOn (program : Y.Program) (input : List ℕ) (w : World) (m : ℕ) : Type 0 where
  pub world : World
  pub meant : meaning program input m ≡ Some world
  pub extends : Extends w world

-- what a program shows is the front of what it shows with more acts
abbrev pub MeaningsContinue : Type 0
MeaningsContinue =
    (program : Y.Program) (input : List ℕ) (k m : ℕ) (w : World) → IsWellFormed program → k ≤ m →
    meaning program input k ≡ Some w → GoesOn program input w m

-- ---- both

-- what an image shows up to some instruction is the front of the program's meaning at every number of acts from its own
-- on
abbrev pub ShowsFronts : Y.Program → Picture → List TableSignature → Type 0
ShowsFronts program image signatures =
    (base : ℕ) (input : List ℕ) (done : ℕ) (w : World) → IsValidBase base → done < 2 ^ 64 →
    shown_by (run_of image signatures base input done) ≡ Some w → (m : ℕ) → w.acts ≤ m → GoesOn program input w m

-- so it is where the headline is proved
abbrev pub CutRunsMeant : Type 0
CutRunsMeant =
    (program : Y.Program) (image : Picture) (signatures : List TableSignature) → IsWellFormed program →
    Headline program image signatures → ShowsFronts program image signatures

-- and of each accepted source
abbrev pub AcceptedCutRunsMeant : Type 0
AcceptedCutRunsMeant =
    (s : List ℕ) (tokens : List Token) (tree : T.Tree) → Tokens s tokens → Spells s tokens tree →
    declaring_faults tree ≡ [] → typing_faults tree ≡ [] → (image : Picture) (signatures : List TableSignature) →
    Headline (typed_tree tree) image signatures → ShowsFronts (typed_tree tree) image signatures
