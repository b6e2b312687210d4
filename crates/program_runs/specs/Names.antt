-- The name of a variable, which stands before its data in its block's frame: told from where it is made.
use Rattle.std.specs.Prelude.{ℕ, ◌+◌, ◌%◌, ◌/◌, ◌^◌, ◌<◌, ◌≡◌, ◌==◌, List, [], ◌∷◌, Option, Some, if◌then◌else◌}
use Rattle.rv_meaning.specs.declared.instr.Instr.{Instr}
use Rattle.pli_coding.specs.Assembly.{size_of}
use Rattle.pli_coding.specs.Entries.{constant_made}
use Rattle.pli_coding.specs.Environments.{Environment}
use Rattle.pli_coding.specs.Frames.{MemoryParts}
use Rattle.pli_coding.specs.Locating.{table_number}
use Rattle.activation_relation.specs.Layers.{Layer, Point, services_of}
use Rattle.activation_relation.specs.Points.{Stands, Surroundings}
use Rattle.activation_relation.specs.Variables.{Made, with_made}
use Rattle.run_steps.specs.Items.{Linked}
use Rattle.run_steps.specs.Reach.{Family, Reach}
use Rattle.block_runs.specs.Machines.{AreIn, IsImage, IsIn}
use Rattle.program_runs.specs.Calls.{AreMade, Callee}
use Rattle.program_runs.specs.Initial.{MayBeMade}
use Rattle.program_runs.specs.Variables.{Declared, IsDeclared, IsOnly, made_of, newest_made}

-- the name of a variable with a serial number of two words, at so many bytes from the frame's address
abbrev pub name_told : (place serial : ℕ) → (ℕ → Option ℕ) → ℕ → Option ℕ
name_told place serial told n =
    if n == place then Some 1
    else (if n == place + 4 then Some 0
    else (if n == place + 8 then Some (serial % 2 ^ 32)
    else (if n == place + 12 then Some (serial / 2 ^ 32) else told n)))

abbrev pub named_of : MemoryParts → (serial : ℕ) → Layer → Declared → Made
named_of parts serial φ x = record (made_of parts φ x) { told = name_told x.place serial φ.told }

abbrev pub named_point : MemoryParts → Layer → Declared → Point → Point
named_point parts φ x p = with_made (named_of parts (p.state.serials + 1) φ x) p

pub record NamesTold : Type 0 where
  -- the code that makes a variable comes to the point that tells its name
  pub comes :
      (w : Surroundings) (code : List Instr) (e : Environment) (p : Point) (numbers : ℕ → ℕ) (x : Declared) (φ : Layer)
      (φs : List Layer) (credits index : ℕ) (f : Family) → Stands w p × IsImage w code p → IsDeclared w p x φ φs →
      p.state.serials + 1 < 2 ^ 64 → (table_number e x.declared ≡ x.number) × (e.parts ≡ w.parts) →
      Linked w.links code index (constant_made e x.place x.declared) → AreIn w p numbers index f →
      Reach code credits f (services_of p) (credits + size_of (constant_made e x.place x.declared))
      (services_of (named_point w.parts φ x p))
      (λ b y. IsIn w (named_point w.parts φ x p) numbers (index + size_of (constant_made e x.place x.declared)) b y)
  pub stands :
      (w : Surroundings) (code : List Instr) (p : Point) (x : Declared) (φ : Layer) (φs : List Layer) →
      Stands w p × IsImage w code p → IsDeclared w p x φ φs →
      Stands w (named_point w.parts φ x p) × IsImage w code (named_point w.parts φ x p)
  -- with INITIAL values, too
  pub begun_comes :
      (w : Surroundings) (code : List Instr) (e : Environment) (p : Point) (numbers : ℕ → ℕ) (x : Declared) (φ : Layer)
      (φs : List Layer) (credits index : ℕ) (f : Family) → Stands w p × IsImage w code p →
      MayBeMade w code p x φ φs → p.state.serials + 1 < 2 ^ 64 →
      (table_number e x.declared ≡ x.number) × (e.parts ≡ w.parts) →
      Linked w.links code index (constant_made e x.place x.declared) → AreIn w p numbers index f →
      Reach code credits f (services_of p) (credits + size_of (constant_made e x.place x.declared))
      (services_of (named_point w.parts φ x p))
      (λ b y. IsIn w (named_point w.parts φ x p) numbers (index + size_of (constant_made e x.place x.declared)) b y)
  pub begun_stands :
      (w : Surroundings) (code : List Instr) (p : Point) (x : Declared) (φ : Layer) (φs : List Layer) →
      Stands w p × IsImage w code p → MayBeMade w code p x φ φs →
      Stands w (named_point w.parts φ x p) × IsImage w code (named_point w.parts φ x p)

-- ---- a procedure with one variable

abbrev pub first_named : MemoryParts → Declared → List Layer → Point → Point
first_named parts x [] p = p
first_named parts x (φ ∷ φs) p = named_point parts φ x p

abbrev pub newest_named : MemoryParts → Declared → Point → Point
newest_named parts x p = first_named parts x p.control.layers p

-- whose name is told where it has been made
pub record IsNamedOnly (w : Surroundings) (c : Callee) (p : Point) (numbers : ℕ → ℕ) (x : Declared) : Type 0 where
  pub only : IsOnly w (record c { made = newest_made w.parts x }) p numbers x
  pub made : c.made ≡ newest_named w.parts x
  pub serial : p.state.serials + 1 < 2 ^ 64

abbrev pub OneNamed : Type 0
OneNamed =
    (w : Surroundings) (code : List Instr) (c : Callee) (p : Point) (numbers : ℕ → ℕ) (x : Declared) →
    IsNamedOnly w c p numbers x → AreMade w code c p numbers
