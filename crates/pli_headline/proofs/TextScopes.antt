-- Variables that hold texts, around an expression: in the meaning and in memory.
use Rattle.std.proofs.Common.{◌≡◌, ℕ, ◌+◌, ◌*◌, ◌<◌, ◌≤◌, List, Some, Bool, arith}
use Rattle.std.specs.Prelude.{slice_get, ◌==◌}
use Rattle.rv_meaning.specs.declared.instr.Instr.{Instr}
use Rattle.rv_meaning.specs.Machine.{memory_size}
use Rattle.pli_typing.specs.TypedTree as Y
use Rattle.pli_meaning.specs.StorageState.{State}
use Rattle.pli_meaning.specs.Raising.{Around}
use Rattle.pli_meaning.specs.Evaluating as V
use Rattle.pli_serving.specs.ServiceState.{Services}
use Rattle.pli_coding.specs.Environments.{Environment}
use Rattle.pli_coding.specs.Expressions.{text_code}
use Rattle.pli_coding.specs.Linking.{Links}
use Rattle.pli_headline.specs.ProvedSoFar.{Names, Types, text_leaf, alone}
use Rattle.run_steps.specs.Engine.{Base, most_code}
use Rattle.pli_headline.proofs.Scalars.{Values}
use Rattle.run_steps.specs.Bodies.{Ground}
use Rattle.run_steps.specs.Reaching.{Reaches}
use Rattle.pli_headline.proofs.Texts.{EvaluatesText}
use Rattle.pli_headline.proofs.TextPlaces.{text_bytes, TextThere}
use Rattle.pli_headline.proofs.TextVariables.{HoldsText, text_evaluates}
use Rattle.pli_headline.proofs.Variables.{IsDeclared, whole, own, level_of, data_place}

-- a variable of the block that holds a text of a length
abbrev pub IsTextAt : Types → (j : ℕ) → (varying : Bool) → (most : ℕ) → Type 0
IsTextAt types j varying most = slice_get types j ≡ Some (alone (text_leaf varying most))

-- the lengths of such variables, and where they stand
pub record TextRoom (e : Environment) (block : Names) (types : Types) (base : ℕ → ℕ) : Type 0 where
  pub high : (j : ℕ) (varying : Bool) (most : ℕ) → IsTextAt types j varying most → 4 * most_code ≤ base j
  pub short : (j : ℕ) (varying : Bool) (most : ℕ) → IsTextAt types j varying most → most ≤ 1024
  pub inside : (j : ℕ) (varying : Bool) (most : ℕ) → IsTextAt types j varying most → base j + data_place e block j + text_bytes varying most ≤ memory_size

-- what they hold
pub record TextsHeld (g : Ground) (e : Environment) (block : Names) (types : Types) (s : State) (base : ℕ → ℕ) (held : Values) : Type 0 where
  pub room : TextRoom e block types base
  pub holds : (j : ℕ) (varying : Bool) (most : ℕ) → IsTextAt types j varying most → HoldsText s (own block j) varying most (held.texts j)
  pub reads : (j : ℕ) (varying : Bool) (most : ℕ) → IsTextAt types j varying most → (t : ℕ → ℕ) (b : Base) (m : List ℕ) → g.memory t b m → TextThere varying most (base j + data_place e block j) m (held.texts j)

-- one of them, as an expression
pub variable_evaluates : {links : Links} {code : List Instr} {g : Ground} {v : Services} {s : State} {k : ℕ} {e : Environment} {block : Names} {types : Types} {base : ℕ → ℕ} {held : Values} (around : Around) (j : ℕ) (varying : Bool) (most words : ℕ) → IsTextAt types j varying most → IsDeclared e block j (text_leaf varying most) → Reaches (level_of block j == e.level) (level_of block j) g (base j) → base j + data_place e block j < memory_size → TextsHeld g e block types s base held → EvaluatesText links code g v s k words (λ taken. text_code e taken (Y.TextIn (whole (own block j)))) (V.text around (Y.TextIn (whole (own block j))))
variable_evaluates {links} {code} {g} {v} {s} {k} {e} {block} {types} {base} {held} around j varying most words below declared reach within texts =
    let d = text_evaluates {links = links} {code = code} {g = g} {v = v} {s = s} {k = k} varying e around block j most (base j) (held.texts j) (texts.room.short j varying most below) declared (texts.holds j varying most below) reach (texts.room.high j varying most below) (texts.room.inside j varying most below) within (λ t b m o. texts.reads j varying most below t b m o) in
    record { does = λ {i} {h} {t} {aims} closed f taken room l at goal. d.does closed f taken (omega (arith, room)) l at goal }
