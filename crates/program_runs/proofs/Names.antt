-- The name of a variable that is made is told of its block's frame.
use Rattle.std.proofs.Common.{◌≡◌, ◌⊎◌, inl, inr, ℕ, ◌+◌, ◌/◌, ◌%◌, ◌^◌, ◌<◌, ◌≤◌, List, ◌∷◌, length}
use Rattle.std.proofs.Common.{Option, Some, Bool, true, false, refl, sym, ap, ◌∙◌, subst, arith}
use Rattle.std.proofs.lemmas.Bool.Decides.{nat_tests}
use Rattle.std.specs.Prelude.{cond, ◌==◌}
use Rattle.rv_meaning.specs.declared.instr.Instr.{Instr}
use Rattle.rv_meaning.specs.Machine.{memory_size}
use Rattle.rv_meaning.specs.Memory.{load}
use Rattle.area_keeper.specs.KeptAreas.{with_part}
use Rattle.area_keeper.proofs.Agreement.{length_with_part}
use Rattle.pli_meaning.specs.BasicValues.{VariableName}
use Rattle.pli_serving.specs.Bytes as B
use Rattle.pli_serving.specs.ServiceState.{Services}
use Rattle.pli_serving.specs.Values.{generation_bytes}
use Rattle.pli_coding.specs.Assembly.{size_of}
use Rattle.pli_coding.specs.Entries.{constant_made}
use Rattle.pli_coding.specs.Environments.{Environment}
use Rattle.pli_coding.specs.Frames.{name_bytes}
use Rattle.pli_coding.specs.Locating.{table_number}
use Rattle.storage_relation.specs.Served.{Holds}
use Rattle.storage_relation.specs.Stored.{Beside}
use Rattle.storage_relation.specs.Telling.{HasWords}
use Rattle.storage_relation.proofs.NameWords.{name_words}
use Rattle.storage_relation.proofs.Slices.{part_written}
use Rattle.activation_relation.specs.Frames.{BesideTold, FramesStand, frame_under, upper_top}
use Rattle.activation_relation.specs.Layers.{Layer, Point, now, services_of}
use Rattle.activation_relation.specs.Owned.{IsOwnPlace}
use Rattle.activation_relation.specs.Points.{Stands, Surroundings}
use Rattle.activation_relation.specs.Variables.{FitsBlock, grown, newest_grown, with_made}
use Rattle.activation_relation.proofs.BlockVariables.{variable_stands}
use Rattle.run_steps.specs.Items.{Linked}
use Rattle.run_steps.specs.Reach.{Family, Reach}
use Rattle.block_runs.specs.Machines.{AreEven, AreIn, IsImage, IsIn}
use Rattle.program_runs.specs.Calls.{AreMade, Callee, begun_at}
use Rattle.program_runs.specs.Initial.{MayBeMade}
use Rattle.program_runs.specs.Names.{IsNamedOnly, name_told, named_of, named_point}
use Rattle.program_runs.specs.Procedures.{layer_for}
use Rattle.program_runs.specs.Variables.{Declared, IsDeclared, generation_for, made_of, newest_made}
use Rattle.program_runs.specs.Variables.{place_behind}
use Rattle.program_runs.proofs.VariableMemory.{Around, fits_block, frames_grown, frames_stay, made_holding}
use Rattle.program_runs.proofs.VariableMemory.{made_memory, place_small, told_there}
use Rattle.program_runs.proofs.VariableProcedures.{one_by}
use Rattle.program_runs.proofs.Variables.{Becomes, becomes_comes, without_initial}

-- ---- its words

-- a word of the name, among those that are told
abbrev pub IsWord : (place serial n v : ℕ) → Type 0
IsWord place serial n v =
    ((n ≡ place) × (v ≡ 1))
    ⊎ (((n ≡ place + 4) × (v ≡ 0))
    ⊎ (((n ≡ place + 8) × (v ≡ serial % 2 ^ 32)) ⊎ ((n ≡ place + 12) × (v ≡ serial / 2 ^ 32))))

word_or_before :
    (place serial : ℕ) (told : ℕ → Option ℕ) (n v : ℕ) → name_told place serial told n ≡ Some v →
    (told n ≡ Some v) ⊎ IsWord place serial n v
word_or_before place serial told n v e = t0 (n == place) refl e
  where
    some : {a b : ℕ} → Some a ≡ Some b → b ≡ a
    some h = cc h

    t12 : (q : Bool) → (n == place + 12) ≡ q → cond q (Some (serial / 2 ^ 32)) (told n) ≡ Some v →
        (told n ≡ Some v) ⊎ IsWord place serial n v
    t12 true f h = inr (inr (inr (inr (grind (arith, nat_tests), some h))))
    t12 false f h = inl h

    t8 : (q : Bool) → (n == place + 8) ≡ q →
        cond q (Some (serial % 2 ^ 32)) (cond (n == place + 12) (Some (serial / 2 ^ 32)) (told n)) ≡ Some v →
        (told n ≡ Some v) ⊎ IsWord place serial n v
    t8 true f h = inr (inr (inr (inl (grind (arith, nat_tests), some h))))
    t8 false f h = t12 (n == place + 12) refl h

    t4 : (q : Bool) → (n == place + 4) ≡ q →
        cond q (Some 0) (cond (n == place + 8) (Some (serial % 2 ^ 32))
        (cond (n == place + 12) (Some (serial / 2 ^ 32)) (told n))) ≡ Some v →
        (told n ≡ Some v) ⊎ IsWord place serial n v
    t4 true f h = inr (inr (inl (grind (arith, nat_tests), some h)))
    t4 false f h = t8 (n == place + 8) refl h

    t0 : (q : Bool) → (n == place) ≡ q →
        cond q (Some 1) (cond (n == place + 4) (Some 0) (cond (n == place + 8) (Some (serial % 2 ^ 32))
        (cond (n == place + 12) (Some (serial / 2 ^ 32)) (told n)))) ≡ Some v →
        (told n ≡ Some v) ⊎ IsWord place serial n v
    t0 true f h = inr (inl (grind (arith, nat_tests), some h))
    t0 false f h = t4 (n == place + 4) refl h

-- they lie within sixteen bytes
word_within :
    (place serial n v : ℕ) → IsWord place serial n v → (place ≤ n) × (n + 4 ≤ place + 16)
word_within place serial n v (inl h) = let e = h.0 in (omega (arith, e), omega (arith, e))
word_within place serial n v (inr (inl h)) = let e = h.0 in (omega (arith, e), omega (arith, e))
word_within place serial n v (inr (inr (inl h))) = let e = h.0 in (omega (arith, e), omega (arith, e))
word_within place serial n v (inr (inr (inr h))) = let e = h.0 in (omega (arith, e), omega (arith, e))

-- and stand where the name does
word_found :
    (at place serial n v : ℕ) (m : List ℕ) → HasWords (VariableName serial) (at + place) m →
    IsWord place serial n v → load 4 m (at + n) ≡ v
word_found at place serial n v m words is = by is
  where
    here : (k j w : ℕ) → n ≡ place + k → at + place + k ≡ j → v ≡ w → load 4 m j ≡ w → load 4 m (at + n) ≡ v
    here k j w e place' value there =
        let same : at + n ≡ j = omega (arith, e, place') in
        ap (load 4 m) same ∙ there ∙ sym value

    by : IsWord place serial n v → load 4 m (at + n) ≡ v
    by (inl h) = let e = h.0 in here 0 (at + place) 1 (omega (arith, e)) (omega arith) h.1 words.kind
    by (inr (inl h)) = here 4 (at + place + 4) 0 h.0 refl h.1 words.offset
    by (inr (inr (inl h))) = here 8 (at + place + 8) (serial % 2 ^ 32) h.0 refl h.1 words.low
    by (inr (inr (inr h))) = here 12 (at + place + 12) (serial / 2 ^ 32) h.0 refl h.1 words.high

-- ---- the point

abbrev serial_of : Point → ℕ
serial_of p = p.state.serials + 1

told_cases :
    {w : Surroundings} {code : List Instr} {p : Point} {x : Declared} {φ : Layer} {φs : List Layer} →
    Around w code p x φ φs → (n v : ℕ) → (φ.told n ≡ Some v) ⊎ IsWord x.place (serial_of p) n v →
    (φ.told n ≡ Some v) ⊎ ((φ.top ≤ φ.at + n) × (φ.at + n + 4 ≤ φ.at + place_behind w.parts x))
told_cases k n v (inl was) = inl was
told_cases {p = p} {x = x} k n v (inr is) =
    let here = k.is.here in
    let holds = k.is.holds in
    let within = word_within x.place (serial_of p) n v is in
    let low = within.0 in
    let high = within.1 in
    inr (omega (arith, here, low), omega (arith, high, holds))

-- the data lie beside the name
beside_name :
    (p : Point) (x : Declared) (φ : Layer) (count : ℕ) → BesideTold (φ.at + (x.place + name_bytes)) count φ →
    (n v : ℕ) → (φ.told n ≡ Some v) ⊎ IsWord x.place (serial_of p) n v →
    Beside (φ.at + (x.place + name_bytes)) count (φ.at + n) 4
beside_name p x φ count old n v (inl was) = old n v was
beside_name p x φ count old n v (inr is) =
    let high = (word_within x.place (serial_of p) n v is).1 in inr (omega (arith, high))

fits_named :
    {w : Surroundings} {code : List Instr} {p : Point} {x : Declared} {φ : Layer} {φs : List Layer} →
    Around w code p x φ φs → FitsBlock w p (named_of w.parts (serial_of p) φ x) φ φs
fits_named {w} {p = p} {x = x} {φ = φ} {φs = φs} k =
    let fits = fits_block k in
    record {
      newest = fits.newest;
      upper = fits.upper;
      falls = fits.falls;
      free = fits.free;
      told = λ n v e. told_cases k n v (word_or_before x.place (serial_of p) φ.told n v e);
      own = own _ fits.own;
      extent = fits.extent;
      shape = fits.shape;
    }
  where
    own :
        (count : ℕ) → IsOwnPlace w.parts (grown (made_of w.parts φ x) φ) φs (φ.at + (x.place + name_bytes)) count →
        IsOwnPlace w.parts (grown (named_of w.parts (serial_of p) φ x) φ) φs (φ.at + (x.place + name_bytes)) count
    own count (inl h) =
        inl (
          h.0,
          h.1,
          λ n v e. beside_name p x φ count h.2 n v
              (word_or_before x.place (serial_of p) φ.told n v e),
        )
    own count (inr h) = inr h

pub named_stands :
    {w : Surroundings} {code : List Instr} {p : Point} {x : Declared} {φ : Layer} {φs : List Layer} →
    Around w code p x φ φs → Stands w (named_point w.parts φ x p) × IsImage w code (named_point w.parts φ x p)
named_stands {w} {p = p} {x = x} {φ = φ} {φs = φs} k = (
  variable_stands w p (named_of w.parts (serial_of p) φ x) φ φs k.stands (fits_named k),
  record {
    keeper = k.image.keeper;
    layout = k.image.layout;
    parts = k.image.parts;
    even = subst (λ ls. AreEven w.parts (newest_grown (named_of w.parts (serial_of p) φ x) ls)) (sym k.is.newest)
        (k.is.even, (subst (AreEven w.parts) k.is.newest k.image.even).1);
  },
)

-- ---- memory

words_there :
    {w : Surroundings} {code : List Instr} {p : Point} {x : Declared} {φ : Layer} {φs : List Layer} (m : List ℕ) →
    Around w code p x φ φs → length m ≡ memory_size → serial_of p < 2 ^ 64 →
    HasWords (VariableName (serial_of p)) (φ.at + x.place) (made_memory p φ x m)
words_there {w} {p = p} {x = x} {φ = φ} m k bytes few =
    let name = B.name_bytes (VariableName (serial_of p)) in
    let data' = generation_bytes (generation_for x) in
    let first = with_part data' (φ.at + (x.place + name_bytes)) m in
    let holds = k.is.holds in
    let small = place_small k in
    let long = length_with_part data' (φ.at + (x.place + name_bytes)) m (omega (arith, holds, small, bytes)) in
    name_words (VariableName (serial_of p)) (φ.at + x.place) (made_memory p φ x m)
    (record { fits = few; tells = part_written name (φ.at + x.place) first (omega (arith, holds, small, bytes, long)) })

named_frames :
    {w : Surroundings} {code : List Instr} {p : Point} {x : Declared} {φ : Layer} {φs : List Layer} (base : ℕ)
    (m : List ℕ) → Around w code p x φ φs → length m ≡ memory_size → serial_of p < 2 ^ 64 →
    FramesStand w.parts base m p.state.activations p.control.layers →
    FramesStand w.parts base (made_memory p φ x m) (named_point w.parts φ x p).state.activations
    (named_point w.parts φ x p).control.layers
named_frames {w} {p = p} {x = x} {φ = φ} {φs = φs} base m k bytes few frames =
    let new = made_memory p φ x m in
    let kept = frames_stay base m k bytes frames in
    let y = named_of w.parts (serial_of p) φ x in
    subst (λ ls. FramesStand w.parts base new (with_made y p).state.activations (newest_grown y ls)) (sym k.is.newest)
    (frames_grown w.parts base new _ y p.state.activations φ φs
    (refl, λ n v e. found kept n v (word_or_before x.place (serial_of p) φ.told n v e)) kept)
  where
    found :
        FramesStand w.parts base (made_memory p φ x m) p.state.activations (φ ∷ φs) → (n v : ℕ) →
        (φ.told n ≡ Some v) ⊎ IsWord x.place (serial_of p) n v → load 4 (made_memory p φ x m) (φ.at + n) ≡ v
    found kept n v (inl was) = told_there w.parts base (made_memory p φ x m) p.state.activations φ φs kept n v was
    found kept n v (inr is) =
        word_found φ.at x.place (serial_of p) n v (made_memory p φ x m) (words_there m k bytes few) is

named_becomes :
    {w : Surroundings} {code : List Instr} {p : Point} {x : Declared} {φ : Layer} {φs : List Layer} →
    Around w code p x φ φs → serial_of p < 2 ^ 64 → Becomes w code p x φ (named_point w.parts φ x p)
named_becomes {w} {p = p} {x = x} {φ = φ} k few =
    let y = named_of w.parts (serial_of p) φ x in
    record {
      stands = named_stands k;
      services = ap (λ ls. services_with (newest_grown (made_of w.parts φ x) ls)) k.is.newest
          ∙ ap (λ ls. services_with (newest_grown y ls)) (sym k.is.newest);
      frame = ap (λ ls. frame_under w.parts (newest_grown y ls)) k.is.newest;
      top = ap (λ ls. upper_top w.parts (newest_grown y ls)) k.is.newest;
      memory = λ b m bytes stands.
          record {
            storage = same_now (made_holding m k bytes stands.storage);
            frames = named_frames b.at m k bytes few stands.frames;
          };
    }
  where
    services_with : List Layer → Services
    services_with ls =
        let q = with_made (made_of w.parts φ x) p in
        services_of (record q { control = record q.control { layers = ls } })

    same_now :
        {m : List ℕ} → Holds (now (with_made (made_of w.parts φ x) p) m) → Holds (now (named_point w.parts φ x p) m)
    same_now h =
        record {
          keeps = h.keeps;
          heap = record { at = h.heap.at; capacity = h.heap.capacity };
          lives = record { falling = h.lives.falling; numbered = h.lives.numbered; extents = h.lives.extents };
          stored = h.stored;
          distinct = h.distinct;
        }

-- ---- the code

-- with INITIAL values, too
pub begun_comes :
    (w : Surroundings) (code : List Instr) (e : Environment) (p : Point) (numbers : ℕ → ℕ) (x : Declared) (φ : Layer)
    (φs : List Layer) (credits index : ℕ) (f : Family) → Stands w p × IsImage w code p → MayBeMade w code p x φ φs →
    p.state.serials + 1 < 2 ^ 64 → (table_number e x.declared ≡ x.number) × (e.parts ≡ w.parts) →
    Linked w.links code index (constant_made e x.place x.declared) → AreIn w p numbers index f →
    Reach code credits f (services_of p) (credits + size_of (constant_made e x.place x.declared))
    (services_of (named_point w.parts φ x p))
    (λ b y. IsIn w (named_point w.parts φ x p) numbers (index + size_of (constant_made e x.place x.declared)) b y)
begun_comes w code e p numbers x φ φs credits index f known may few same l there =
    becomes_comes w code e p (named_point w.parts φ x p) numbers x φ φs credits index f known may
    (named_becomes (record { stands = known.0; image = known.1; is = may }) few) same l there

pub begun_stands :
    (w : Surroundings) (code : List Instr) (p : Point) (x : Declared) (φ : Layer) (φs : List Layer) →
    Stands w p × IsImage w code p → MayBeMade w code p x φ φs →
    Stands w (named_point w.parts φ x p) × IsImage w code (named_point w.parts φ x p)
begun_stands w code p x φ φs known may = named_stands (record { stands = known.0; image = known.1; is = may })

pub name_comes :
    (w : Surroundings) (code : List Instr) (e : Environment) (p : Point) (numbers : ℕ → ℕ) (x : Declared) (φ : Layer)
    (φs : List Layer) (credits index : ℕ) (f : Family) → Stands w p × IsImage w code p → IsDeclared w p x φ φs →
    p.state.serials + 1 < 2 ^ 64 → (table_number e x.declared ≡ x.number) × (e.parts ≡ w.parts) →
    Linked w.links code index (constant_made e x.place x.declared) → AreIn w p numbers index f →
    Reach code credits f (services_of p) (credits + size_of (constant_made e x.place x.declared))
    (services_of (named_point w.parts φ x p))
    (λ b y. IsIn w (named_point w.parts φ x p) numbers (index + size_of (constant_made e x.place x.declared)) b y)
name_comes w code e p numbers x φ φs credits index f known is few same l there =
    begun_comes w code e p numbers x φ φs credits index f known (without_initial w code p x φ φs is) few same l there

pub name_stands :
    (w : Surroundings) (code : List Instr) (p : Point) (x : Declared) (φ : Layer) (φs : List Layer) →
    Stands w p × IsImage w code p → IsDeclared w p x φ φs →
    Stands w (named_point w.parts φ x p) × IsImage w code (named_point w.parts φ x p)
name_stands w code p x φ φs known is = begun_stands w code p x φ φs known (without_initial w code p x φ φs is)

pub one_named :
    (w : Surroundings) (code : List Instr) (c : Callee) (p : Point) (numbers : ℕ → ℕ) (x : Declared) →
    IsNamedOnly w c p numbers x → AreMade w code c p numbers
one_named w code c p numbers x h =
    let start = begun_at w c p numbers in
    let φ = layer_for w p numbers c.procedure c.calling in
    one_by w code (record c { made = newest_made w.parts x }) c.made p numbers x
    (name_told x.place (p.state.serials + 1) φ.told) h.only
    (ap (λ (made : Point → Point). made start) h.made)
    (λ known. named_becomes (record {
      stands = known.0;
      image = known.1;
      is = without_initial w code start x φ p.control.layers h.only.declared;
    }) h.serial)
