-- Several variables of constant size, with INITIAL values and without, areas among them, made one behind the other in
-- the newest block.
use Rattle.std.specs.Prelude.{ℕ, ◌+◌, ◌^◌, ◌<◌, ◌≤◌, ◌≡◌, ◌⊎◌, ◌++◌, List, [], ◌∷◌, length, Option, None, Some, is_some}
use Rattle.std.specs.Prelude.{Bool, false, nat_lt, true, ⊤}
use Rattle.rv_meaning.specs.declared.instr.Instr.{Instr}
use Rattle.pli_typing.specs.TypedTree as Y
use Rattle.pli_meaning.specs.DeclaredShapes.{shape_of, variables_of_block}
use Rattle.pli_serving.specs.Arguments.{capacity_of}
use Rattle.pli_coding.specs.Assembly.{Code}
use Rattle.pli_coding.specs.Entries.{constant_made}
use Rattle.pli_coding.specs.Environments.{Environment}
use Rattle.pli_coding.specs.Frames.{MemoryParts, is_automatic}
use Rattle.pli_coding.specs.Locating.{table_number}
use Rattle.activation_relation.specs.Layers.{Layer, Point}
use Rattle.activation_relation.specs.Points.{Surroundings}
use Rattle.activation_relation.specs.Variables.{Made, grown, with_made}
use Rattle.program_runs.specs.Calls.{AreMade, Callee, begun_at}
use Rattle.program_runs.specs.Initial.{MayBeMade}
use Rattle.program_runs.specs.Names.{name_told}
use Rattle.program_runs.specs.Procedures.{layer_for}
use Rattle.program_runs.specs.Statements.{Block, IsAmong, IsBegun}
use Rattle.program_runs.specs.Variables.{Declared, IsDeclared, made_of}
use Rattle.variable_runs.specs.Areas.{IsArea}

-- ---- where they are made

-- what is told of the words of its name from then on, which services read, if its serial number has two words
abbrev pub told_if : Bool → (place serial : ℕ) → (ℕ → Option ℕ) → ℕ → Option ℕ
told_if true place serial told = name_told place serial told
told_if false place serial told = told

abbrev pub made_now : MemoryParts → (serial : ℕ) → Layer → Declared → Made
made_now parts serial φ x =
    record (made_of parts φ x) { told = told_if (nat_lt serial (2 ^ 64)) x.place serial φ.told }

-- the newest block's layer behind one, and behind them all
abbrev pub layer_behind : MemoryParts → (serial : ℕ) → Layer → Declared → Layer
layer_behind parts serial φ x = grown (made_now parts serial φ x) φ

abbrev pub layer_after : MemoryParts → (serial : ℕ) → Layer → List Declared → Layer
layer_after parts serial φ [] = φ
layer_after parts serial φ (x ∷ xs) = layer_after parts (serial + 1) (layer_behind parts serial φ x) xs

-- the point behind one, and behind them all, where the newest block has this layer
abbrev pub behind_made : MemoryParts → Layer → Declared → Point → Point
behind_made parts φ x p = with_made (made_now parts (p.state.serials + 1) φ x) p

abbrev pub all_made : MemoryParts → Layer → List Declared → Point → Point
all_made parts φ [] p = p
all_made parts φ (x ∷ xs) p =
    all_made parts (layer_behind parts (p.state.serials + 1) φ x) xs (behind_made parts φ x p)

abbrev pub first_all : MemoryParts → List Declared → List Layer → Point → Point
first_all parts xs [] p = p
first_all parts xs (φ ∷ φs) p = all_made parts φ xs p

abbrev pub newest_all : MemoryParts → List Declared → Point → Point
newest_all parts xs p = first_all parts xs p.control.layers p

-- a variable of values to which nothing is given, or an area
abbrev pub Declares : Surroundings → Point → Declared → Layer → List Layer → Type 0
Declares w p x φ φs = IsDeclared w p x φ φs ⊎ IsArea w p x φ φs

-- one that begins with what is told of static data, or an area
abbrev pub MayBegin : Surroundings → List Instr → Point → Declared → Layer → List Layer → Type 0
MayBegin w code p x φ φs = MayBeMade w code p x φ φs ⊎ IsArea w p x φ φs

-- each can be made where those before it have been
abbrev pub AreEach :
    (Point → Declared → Layer → List Layer → Type 0) → MemoryParts → Point → Layer → List Layer → List Declared → Type 0
AreEach P parts p φ φs [] = ⊤
AreEach P parts p φ φs (x ∷ xs) =
    P p x φ φs
    × AreEach P parts (behind_made parts φ x p) (layer_behind parts (p.state.serials + 1) φ x) φs xs

abbrev pub AreDeclared : Surroundings → Point → Layer → List Layer → List Declared → Type 0
AreDeclared w p φ φs xs = AreEach (Declares w) w.parts p φ φs xs

abbrev pub AllMayBegin : Surroundings → List Instr → Point → Layer → List Layer → List Declared → Type 0
AllMayBegin w code p φ φs xs = AreEach (MayBegin w code) w.parts p φ φs xs

-- ---- their code

abbrev pub made_code : Environment → List Declared → Code
made_code e [] = []
made_code e (x ∷ xs) = constant_made e x.place x.declared ++ made_code e xs

-- AUTOMATIC, of no extents that are evaluated, and with a signature in the table; no earlier one than the nth of its
-- block
pub record IsListed (e : Environment) (n : ℕ) (x : Declared) : Type 0 where
  pub class : x.declared.class ≡ Y.AutomaticClass
  pub evaluations : x.declared.evaluations ≡ []
  pub late : n ≤ x.index
  pub table : table_number e x.declared ≡ x.number

abbrev pub AreListed : Environment → (n : ℕ) → List Declared → Type 0
AreListed e n [] = ⊤
AreListed e n (x ∷ xs) = IsListed e n x × AreListed e (x.index + 1) xs

-- what a block declares from its nth variable on are these, and others that aren't AUTOMATIC
abbrev pub AreThose : (n : ℕ) → List Declared → List Y.DeclaredVariable → Type 0
AreThose n [] [] = ⊤
AreThose n (x ∷ xs) [] = ⊥
AreThose n [] (d ∷ ds) = (is_automatic d.class ≡ false) × AreThose (n + 1) [] ds
AreThose n (x ∷ xs) (d ∷ ds) =
    ((x.index ≡ n) × (d ≡ x.declared) × AreThose (n + 1) xs ds)
    ⊎ ((is_automatic d.class ≡ false) × AreThose (n + 1) (x ∷ xs) ds)

-- ---- the variables of a procedure

-- the program declares them so, its code is that, and no more serials come between two acts than there are of them
pub record AreAllOf (P : Point → Declared → Layer → List Layer → Type 0) (w : Surroundings) (c : Callee) (p : Point)
    (numbers : ℕ → ℕ) (xs : List Declared) : Type 0
  where
    pub kind : c.procedure.head.kind ≡ Y.ProcedureBlock
    pub those : AreThose 0 xs (variables_of_block c.around.program c.procedure.head.number)
    pub listed : AreListed c.environment 0 xs
    pub code : c.procedure.variables ≡ made_code c.environment xs
    pub made : c.made ≡ newest_all w.parts xs
    pub parts : c.environment.parts ≡ w.parts
    pub few : length xs ≤ w.serials
    pub declared :
        AreEach P w.parts (begun_at w c p numbers) (layer_for w p numbers c.procedure c.calling) p.control.layers xs

-- nothing is given to them
abbrev pub AreAll : Surroundings → Callee → Point → (numbers : ℕ → ℕ) → List Declared → Type 0
AreAll w c p numbers xs = AreAllOf (Declares w) w c p numbers xs

-- INITIAL values are, or nothing
abbrev pub AreAllBegun : Surroundings → List Instr → Callee → Point → (numbers : ℕ → ℕ) → List Declared → Type 0
AreAllBegun w code c p numbers xs = AreAllOf (MayBegin w code) w c p numbers xs

abbrev pub AllMade : Type 0
AllMade =
    (w : Surroundings) (code : List Instr) (c : Callee) (p : Point) (numbers : ℕ → ℕ) (xs : List Declared) →
    AreAll w c p numbers xs → AreMade w code c p numbers

-- the names of areas have serials of two words
abbrev pub HaveWords : (serials : ℕ) → List Declared → Type 0
HaveWords serials [] = ⊤
HaveWords serials (x ∷ xs) =
    (is_some (capacity_of (shape_of [] x.declared)) ≡ true → serials + 1 < 2 ^ 64) × HaveWords (serials + 1) xs

-- what holds of them at a block's first statement holds at each of the block's points
abbrev pub AllAmong : Type 0
AllAmong =
    (k : Block) (c : Callee) (xs : List Declared) (p : Point) (numbers held : ℕ → ℕ) → IsBegun k →
    IsAmong k numbers p → HaveWords p.state.serials xs → AreAll k.call.surroundings c k.first held xs →
    AreAll k.call.surroundings c p held xs

-- ---- with INITIAL values

pub record AllBegin : Type 0 where
  -- a procedure makes them where its block begins
  pub made :
      (w : Surroundings) (code : List Instr) (c : Callee) (p : Point) (numbers : ℕ → ℕ) (xs : List Declared) →
      AreAllBegun w code c p numbers xs → AreMade w code c p numbers
  -- those to which nothing is given are some of these
  pub without :
      (w : Surroundings) (code : List Instr) (c : Callee) (p : Point) (numbers : ℕ → ℕ) (xs : List Declared) →
      AreAll w c p numbers xs → AreAllBegun w code c p numbers xs
  -- what holds of them at a block's first statement holds at each of the block's points
  pub among :
      (k : Block) (c : Callee) (xs : List Declared) (p : Point) (numbers held : ℕ → ℕ) → IsBegun k →
      IsAmong k numbers p → HaveWords p.state.serials xs →
      AreAllBegun k.call.surroundings k.call.code c k.first held xs →
      AreAllBegun k.call.surroundings k.call.code c p held xs

-- one of them
abbrev pub Among : Declared → List Declared → Type 0
Among d [] = ⊥
Among d (x ∷ xs) = (d ≡ x) ⊎ Among d xs
