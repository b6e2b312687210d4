-- Linked code whose marks stand, too: each symbol that it marks has its place there.
use Rattle.std.specs.Prelude.{ℕ, ◌+◌, ◌*◌, ◌≡◌, List, [], ◌∷◌, ⊤}
use Rattle.rv_meaning.specs.declared.instr.Instr.{Instr}
use Rattle.pli_coding.specs.Assembly.{Code, Item, Mark, item_size}
use Rattle.pli_coding.specs.Linking.{Links, marked_place}
use Rattle.run_steps.specs.Items.{Linked}

abbrev pub IsMarked : Links → (index : ℕ) → Item → Type 0
IsMarked links i (Mark s) = marked_place s links.marks ≡ 4 * i
IsMarked links i _ = ⊤

abbrev pub MarksStand : Links → (index : ℕ) → Code → Type 0
MarksStand links i [] = ⊤
MarksStand links i (x ∷ xs) = IsMarked links i x × MarksStand links (i + item_size x) xs

-- from an index on
pub record Placed (links : Links) (code : List Instr) (i : ℕ) (xs : Code) : Type 0 where
  pub linked : Linked links code i xs
  pub marks : MarksStand links i xs
