-- Laws of the definitions, each of which a function of `src/laws.rt` carries.
use Rattle.std.specs.Prelude.{◌≡◌, ℕ, List}
use Rattle.rv_meaning.specs.declared.image.ImageFault.{ImageFault}
use Rattle.rv_meaning.specs.Images.{Image, HasBytes, Keeps}

-- an image has one list of bytes, and a list of bytes is that of one image at most
pub record OneToOne : Type 0 where
  pub one_spelling : (i : Image) (b c : List ℕ) → HasBytes i b → HasBytes i c → b ≡ c
  pub one_image : (i j : Image) (b : List ℕ) → HasBytes i b → HasBytes j b → i ≡ j

-- the bytes of an image keep all the rules for whose breach bytes are refused
abbrev pub KeepsAll : Type 0
KeepsAll = (i : Image) (b : List ℕ) (fault : ImageFault) → HasBytes i b → Keeps fault b
