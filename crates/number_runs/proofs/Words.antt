-- Variables of a block, scalars and arrays: each is made where the frame ends, behind the one before it.
use Rattle.std.proofs.Common.{◌≡◌, ℕ, zero, suc, ◌+◌, ◌<◌, ◌≤◌, List, [], ◌∷◌, ◌++◌, Option, None, Some, inl}
use Rattle.std.proofs.Common.{inr, length, true, false, refl, sym, ap, ◌∙◌, subst, arith}
use Rattle.std.specs.Prelude.{◌==◌, ◌%◌, Bool, if◌then◌else◌, is_some, min, slice_get}
use Rattle.std.proofs.lemmas.Bool.{and_parts, le-leb}
use Rattle.rv_meaning.specs.declared.instr.Instr.{Instr}
use Rattle.pli_language.specs.Tree as T
use Rattle.pli_typing.specs.TypedTree as Y
use Rattle.pli_meaning.specs.Contents.{footprint_of}
use Rattle.pli_meaning.specs.DeclaredShapes.{declared_variable, variables_of_block}
use Rattle.pli_meaning.specs.Making.{living_at}
use Rattle.pli_meaning.specs.StorageState.{Living, automatic_in_use, newest_height}
use Rattle.pli_coding.specs.Assembly.{Code}
use Rattle.pli_coding.specs.Entries.{adjustable_made, automatic_made, constant_made, variables_made}
use Rattle.pli_coding.specs.Environments.{Environment}
use Rattle.pli_coding.specs.Frames.{MemoryParts, automatic_place, fixed_size, frame_bytes, is_automatic, last_place}
use Rattle.pli_coding.specs.Frames.{parameters_of_block, variable_place}
use Rattle.pli_coding.specs.Locating.{table_number}
use Rattle.storage_relation.proofs.Spelling.{spelled_length}
use Rattle.activation_relation.specs.Layers.{Layer, Point}
use Rattle.activation_relation.specs.Points.{Surroundings}
use Rattle.block_runs.specs.Machines.{HasParts}
use Rattle.program_runs.specs.Calls.{Callee, begun_at, block_at}
use Rattle.program_runs.specs.Procedures.{layer_for}
use Rattle.program_runs.specs.Statements.{Block, IsAmong, IsBegun}
use Rattle.program_runs.specs.Initial.{Begins, MayBeMade}
use Rattle.program_runs.specs.Variables.{Declared, generation_for}
use Rattle.expression_runs.specs.Variables.{IsNumber, Spot, number_declared, variable_of}
use Rattle.variable_runs.specs.Known.{IsKnown, IsOwn}
use Rattle.variable_runs.specs.Lists.{AllMayBegin, Among, AreAllBegun, AreListed, AreThose, HaveWords, all_made}
use Rattle.variable_runs.specs.Lists.{behind_made, layer_after, layer_behind, made_code}
use Rattle.variable_runs.proofs.ListsAmong.{begun_among}
use Rattle.function_runs.specs.Functions.{function_block}
use Rattle.variable_runs.proofs.Known.{known_begun, known_number}
use Rattle.variable_runs.proofs.Lists.{next_layers}
use Rattle.array_runs.specs.Arrays.{IsArray}
use Rattle.number_runs.specs.Initial.{values_of}
use Rattle.number_runs.specs.Arrays.{declared_grid, grid_if, is_array, is_array_if}
use Rattle.scalar_runs.specs.Scalars.{IsScalar}
use Rattle.number_runs.specs.Narrow.{is_narrow, is_narrow_if, narrow_type, type_if}
use Rattle.number_runs.specs.Numbers.{is_plain, is_plain_if}
use Rattle.number_runs.specs.Variables.{EachBegins}
use Rattle.number_runs.specs.Variables.{AreTabled, HasWords, HaveRoom, IsOwnArray, IsOwnNarrow, IsOwnWord, IsTabled}
use Rattle.number_runs.specs.Variables.{are_plain, bytes_of, is_declared, own_grid, own_type, variable_bytes}
use Rattle.number_runs.specs.Variables.{words_from, words_in}
use Rattle.number_runs.proofs.Arrays.{array_is, grid_of, type_of}
use Rattle.number_runs.proofs.Declared.{makeable, sized}
use Rattle.number_runs.proofs.Narrow.{narrow_is}
use Rattle.number_runs.proofs.Variables.{plain_is}

abbrev pub word_made : Environment → (place index : ℕ) → Y.DeclaredVariable → Declared
word_made e place index d = record { index = index; declared = d; number = table_number e d; place = place }

-- ---- where they are made

pub one_declared :
    (w : Surroundings) (code : List Instr) (p : Point) (φ : Layer) (φs : List Layer) (e : Environment)
    (place index more : ℕ) (d : Y.DeclaredVariable) → is_declared d ≡ true → IsTabled e p.places.signatures d →
    Begins p.places.constants code w.links.data' d → HaveRoom w p φ φs place (variable_bytes d + more) →
    MayBeMade w code p (word_made e place index d) φ φs
one_declared w code p φ φs e place index more d is table begins h =
    let here = h.here in
    let even = h.even in
    let counted = h.counted in
    let fits = h.fits in
    let limit = h.limit in
    let m = makeable d is in
    let s = sized d is in
    let frame = m.frame w.parts in
    let whole' = s.even in
    let holds = s.holds in
    let counts = m.counts in
    let spelled = spelled_length (generation_for (word_made e place index d)) m.values in
    record {
      newest = h.newest;
      here = h.here;
      holds = omega (arith, counted, frame, holds, spelled, counts);
      size = omega (arith, counted, frame, holds);
      fits = omega (arith, here, fits, counted, frame);
      even = omega (arith, here, even, counted, frame, whole');
      low = h.low;
      shape = table.shape;
      number = table.small;
      initial = begins;
      plain = m.plain;
      fixed = m.fixed;
      values = m.values;
      valued = m.valued;
      limit = le-leb _ _ (omega (arith, limit, counts));
    }

pub counts_more :
    (l : Living) (ls : List Living) (n : ℕ) →
    (if l.owner == 0 then automatic_in_use ls else n + automatic_in_use ls) ≤ automatic_in_use ls + n
counts_more l ls n = split (l.owner == 0)
  where
    split :
        (q : Bool) →
        (if q then automatic_in_use ls else n + automatic_in_use ls) ≤ automatic_in_use ls + n
    split true = omega arith
    split false = omega arith

next_room :
    (w : Surroundings) (p : Point) (φ : Layer) (φs : List Layer) (e : Environment) (place index more : ℕ)
    (d : Y.DeclaredVariable) → is_declared d ≡ true → HaveRoom w p φ φs place (variable_bytes d + more) →
    HaveRoom w (behind_made w.parts φ (word_made e place index d) p)
    (layer_behind w.parts (p.state.serials + 1) φ (word_made e place index d)) φs (place + variable_bytes d) more
next_room w p φ φs e place index more d is h =
    let here = h.here in
    let even = h.even in
    let counted = h.counted in
    let fits = h.fits in
    let limit = h.limit in
    let x = word_made e place index d in
    let m = makeable d is in
    let frame = m.frame w.parts in
    let whole' = (sized d is).even in
    let counts = m.counts in
    let l = living_at (p.state.serials + 1) (newest_height p.state.activations) (generation_for x) in
    let now = counts_more l p.state.living (footprint_of (generation_for x)) in
    record {
      newest = next_layers w p x φ φs h.newest;
      here = omega (arith, here, counted, frame);
      even = omega (arith, here, even, counted, frame, whole');
      counted = omega (arith, counted);
      fits = omega (arith, here, fits, counted, frame);
      low = h.low;
      limit = omega (arith, limit, now, counts);
    }

pub words_declared :
    (w : Surroundings) (code : List Instr) (p : Point) (φ : Layer) (φs : List Layer) (e : Environment)
    (place index : ℕ) (ds : List Y.DeclaredVariable) → are_plain ds ≡ true → AreTabled e p.places.signatures ds →
    EachBegins p.places.constants code w.links.data' ds → HaveRoom w p φ φs place (bytes_of ds) →
    AllMayBegin w code p φ φs (words_from e place index ds)
words_declared w code p φ φs e place index [] is tabled begin h = tt
words_declared w code p φ φs e place index (d ∷ ds) is tabled begin h =
    let a = and_parts (is_declared d) (are_plain ds) is in (
      inl (one_declared w code p φ φs e place index (bytes_of ds) d a.0 tabled.0 begin.0 h),
      words_declared w code (behind_made w.parts φ (word_made e place index d) p)
          (layer_behind w.parts (p.state.serials + 1) φ (word_made e place index d)) φs e (place + variable_bytes d)
          (index + 1) ds a.1 tabled.1 begin.1 (next_room w p φ φs e place index (bytes_of ds) d a.0 h),
    )

-- where they have been made, there is room for what is left
pub room_behind :
    (w : Surroundings) (p : Point) (φ : Layer) (φs : List Layer) (e : Environment) (place index more : ℕ)
    (ds : List Y.DeclaredVariable) → are_plain ds ≡ true → HaveRoom w p φ φs place (bytes_of ds + more) →
    HaveRoom w (all_made w.parts φ (words_from e place index ds) p)
    (layer_after w.parts (p.state.serials + 1) φ (words_from e place index ds)) φs (place + bytes_of ds) more
room_behind w p φ φs e place index more [] is h =
    subst (λ n. HaveRoom w p φ φs n more) (omega arith)
    (subst (λ n. HaveRoom w p φ φs place n) (omega arith) h)
room_behind w p φ φs e place index more (d ∷ ds) is h =
    let a = and_parts (is_declared d) (are_plain ds) is in
    let x = word_made e place index d in
    let all : variable_bytes d + bytes_of ds + more ≡ variable_bytes d + (bytes_of ds + more) = omega arith in
    let at : place + variable_bytes d + bytes_of ds ≡ place + (variable_bytes d + bytes_of ds) = omega arith in
    subst (λ n. HaveRoom w (all_made w.parts (layer_behind w.parts (p.state.serials + 1) φ x)
    (words_from e (place + variable_bytes d) (index + 1) ds) (behind_made w.parts φ x p))
    (layer_after w.parts (p.state.serials + 1 + 1) (layer_behind w.parts (p.state.serials + 1) φ x)
    (words_from e (place + variable_bytes d) (index + 1) ds)) φs n more) at
    (room_behind w (behind_made w.parts φ x p) (layer_behind w.parts (p.state.serials + 1) φ x) φs e
    (place + variable_bytes d) (index + 1) more ds a.1
    (next_room w p φ φs e place index (bytes_of ds + more) d a.0
    (subst (λ n. HaveRoom w p φ φs place n) all h)))

-- they lie one behind the other at the end of the newest block's frame
pub record AreLaid (w : Surroundings) (p : Point) (φ : Layer) (φs : List Layer) (xs : List Declared)
    (bytes : ℕ) : Type 0
  where
    pub newest : (all_made w.parts φ xs p).control.layers ≡ layer_after w.parts (p.state.serials + 1) φ xs ∷ φs
    pub top : (layer_after w.parts (p.state.serials + 1) φ xs).top ≡ φ.top + bytes
    pub lower : (layer_after w.parts (p.state.serials + 1) φ xs).lower ≡ φ.lower

pub words_laid :
    (w : Surroundings) (p : Point) (φ : Layer) (φs : List Layer) (e : Environment) (place index : ℕ)
    (ds : List Y.DeclaredVariable) → are_plain ds ≡ true → p.control.layers ≡ φ ∷ φs → φ.at + place ≡ φ.top →
    φ.top % 16 ≡ 0 → place + bytes_of ds ≤ last_place → AreLaid w p φ φs (words_from e place index ds) (bytes_of ds)
words_laid w p φ φs e place index [] is newest here even counted =
    record { newest = newest; top = omega arith; lower = refl }
words_laid w p φ φs e place index (d ∷ ds) is newest here even counted =
    let a = and_parts (is_declared d) (are_plain ds) is in
    let x = word_made e place index d in
    let frame = (makeable d a.0).frame w.parts in
    let whole' = (sized d a.0).even in
    let rest = words_laid w (behind_made w.parts φ x p) (layer_behind w.parts (p.state.serials + 1) φ x) φs e
    (place + variable_bytes d) (index + 1) ds a.1 (next_layers w p x φ φs newest)
    (omega (arith, here, counted, frame)) (omega (arith, here, even, counted, frame, whole'))
    (omega (arith, counted)) in
    let top = rest.top in
    record { newest = rest.newest; top = omega (arith, here, counted, top, frame); lower = rest.lower }

pub room_fewer :
    (w : Surroundings) (p : Point) (φ : Layer) (φs : List Layer) (place m n : ℕ) → m ≤ n → HaveRoom w p φ φs place n →
    HaveRoom w p φ φs place m
room_fewer w p φ φs place m n less h =
    let counted = h.counted in
    let fits = h.fits in
    let limit = h.limit in
    record {
      newest = h.newest;
      here = h.here;
      even = h.even;
      counted = omega (arith, less, counted);
      fits = omega (arith, less, fits);
      low = h.low;
      limit = omega (arith, less, limit);
    }

-- ---- what the program declares

pub words_those :
    (e : Environment) (place index : ℕ) (ds : List Y.DeclaredVariable) → AreThose index (words_from e place index ds) ds
words_those e place index [] = tt
words_those e place index (d ∷ ds) =
    inl (refl, refl, words_those e (place + variable_bytes d) (index + 1) ds)

pub words_listed :
    (e : Environment) (place index : ℕ) (ds : List Y.DeclaredVariable) → are_plain ds ≡ true →
    AreListed e index (words_from e place index ds)
words_listed e place index [] is = tt
words_listed e place index (d ∷ ds) is =
    let a = and_parts (is_declared d) (are_plain ds) is in
    let m = makeable d a.0 in (
      record { class = m.class; evaluations = m.evaluations; late = omega arith; table = refl },
      words_listed e (place + variable_bytes d) (index + 1) ds a.1,
    )

-- ---- their code

-- what those before one take
abbrev pub bytes_before : List Y.DeclaredVariable → (index : ℕ) → ℕ
bytes_before [] index = 0
bytes_before (d ∷ ds) zero = 0
bytes_before (d ∷ ds) (suc index) = variable_bytes d + bytes_before ds index

abbrev pub PlacesAre : (parts : MemoryParts) → (at : ℕ) → List Y.DeclaredVariable → Type 0
PlacesAre parts at ds = (i : ℕ) → i < length ds → variable_place parts at ds i ≡ at + bytes_before ds i

pub places_are :
    (parts : MemoryParts) (at : ℕ) (ds : List Y.DeclaredVariable) → are_plain ds ≡ true →
    at + bytes_of ds ≤ last_place → PlacesAre parts at ds
places_are parts at [] h fits i less = absurd (omega (arith, less))
places_are parts at (d ∷ ds) h fits zero less = omega arith
places_are parts at (d ∷ ds) h fits (suc i) less =
    let a = and_parts (is_declared d) (are_plain ds) h in
    let frame = (makeable d a.0).frame parts in
    let next' : min last_place (at + frame_bytes parts d) ≡ at + variable_bytes d = omega (arith, fits, frame) in
    let rest = places_are parts (at + variable_bytes d) ds a.1 (omega (arith, fits)) i (omega (arith, less)) in
    ap (λ n. variable_place parts n ds i) next' ∙ rest ∙ omega arith

-- one that is AUTOMATIC and evaluates nothing
one_code :
    (e : Environment) (line place : ℕ) (d : Y.DeclaredVariable) (rest : Code) → is_declared d ≡ true →
    (if is_automatic d.class then automatic_made e line place d else []) ++ rest ≡ constant_made e place d ++ rest
one_code e line place d rest is =
    let m = makeable d is in
    ap (λ c. (if is_automatic c then automatic_made e line place d else []) ++ rest) m.class
    ∙ ap (λ q. (if q then constant_made e place d else adjustable_made e line place d) ++ rest) m.constant

pub words_code :
    (e : Environment) (line place index : ℕ) (ds : List Y.DeclaredVariable) → are_plain ds ≡ true →
    ((i : ℕ) → i < length ds →
    automatic_place e.parts e.program e.block e.level (index + i) ≡ place + bytes_before ds i) →
    variables_made e line index ds ≡ made_code e (words_from e place index ds)
words_code e line place index [] h at = refl
words_code e line place index (d ∷ ds) h at =
    let a = and_parts (is_declared d) (are_plain ds) h in
    let rest = variables_made e line (suc index) ds in
    let here : automatic_place e.parts e.program e.block e.level index ≡ place =
    ap (λ n. automatic_place e.parts e.program e.block e.level n) (omega arith) ∙ at 0 (omega arith) ∙ omega arith in
    let n : suc index ≡ index + 1 = omega arith in
    let more = words_code e line (place + variable_bytes d) (index + 1) ds a.1
    (λ i less. ap (λ m. automatic_place e.parts e.program e.block e.level m) (omega arith)
    ∙ at (suc i) (omega (arith, less)) ∙ omega arith) in
    one_code e line (automatic_place e.parts e.program e.block e.level index) d rest a.0
    ∙ ap (λ m. constant_made e m d ++ rest) here
    ∙ ap (λ m. constant_made e place d ++ variables_made e line m ds) n
    ∙ ap (λ code. constant_made e place d ++ code) more

-- ---- one among them

pub words_among :
    (e : Environment) (place index i : ℕ) (ds : List Y.DeclaredVariable) (d : Y.DeclaredVariable) →
    slice_get ds i ≡ Some d →
    Among (word_made e (place + bytes_before ds i) (index + i) d) (words_from e place index ds)
words_among e place index i [] d is = absurd (cc is)
words_among e place index zero (u ∷ ds) d is =
    let at : place + 0 ≡ place = omega arith in
    let n : index + 0 ≡ index = omega arith in
    let same : u ≡ d = cc is in
    inl (ap (λ m. word_made e m (index + 0) d) at ∙ ap (λ m. word_made e place m d) n
    ∙ ap (λ v. word_made e place index v) (sym same))
words_among e place index (suc i) (u ∷ ds) d is =
    let at : place + variable_bytes u + bytes_before ds i ≡ place + (variable_bytes u + bytes_before ds i) =
    omega arith in
    let n : index + 1 + i ≡ index + suc i = omega arith in
    inr (subst (λ m. Among (word_made e m (index + suc i) d)
    (words_from e (place + variable_bytes u) (index + 1) ds)) at
    (subst (λ m. Among (word_made e (place + variable_bytes u + bytes_before ds i) m d)
    (words_from e (place + variable_bytes u) (index + 1) ds)) n
    (words_among e (place + variable_bytes u) (index + 1) i ds d is)))

-- a variable that there is has an index below their number
pub slice_less : {A : Type 0} (xs : List A) (i : ℕ) (x : A) → slice_get xs i ≡ Some x → i < length xs
slice_less [] i x e = absurd (cc e)
slice_less (y ∷ ys) zero x e = omega arith
slice_less (y ∷ ys) (suc i) x e = let n = slice_less ys i x e in omega (arith, n)

pub record Found (o : Option Y.DeclaredVariable) : Type 0 where
  pub initial : List T.InitialItem
  pub is : o ≡ Some (number_declared initial)
  pub plain : is_plain (number_declared initial) ≡ true

pub found : (o : Option Y.DeclaredVariable) → is_plain_if o ≡ true → Found o
found None h = absurd (cc h)
found (Some d) h =
    record {
      initial = values_of d;
      is = ap (λ d'. Some d') (plain_is d h);
      plain = subst (λ d'. is_plain d' ≡ true) (plain_is d h) h;
    }

pub record FoundArray (o : Option Y.DeclaredVariable) : Type 0 where
  pub declared : Y.DeclaredVariable
  pub is : o ≡ Some declared
  pub array : is_array declared ≡ true
  pub bounds : grid_if o ≡ declared_grid declared

pub found_array : (o : Option Y.DeclaredVariable) → is_array_if o ≡ true → FoundArray o
found_array None h = absurd (cc h)
found_array (Some d) h = record { declared = d; is = refl; array = h; bounds = refl }

pub record FoundNarrow (o : Option Y.DeclaredVariable) : Type 0 where
  pub declared : Y.DeclaredVariable
  pub is : o ≡ Some declared
  pub narrow : is_narrow declared ≡ true
  pub type : type_if o ≡ narrow_type declared

pub found_narrow : (o : Option Y.DeclaredVariable) → is_narrow_if o ≡ true → FoundNarrow o
found_narrow None h = absurd (cc h)
found_narrow (Some d) h = record { declared = d; is = refl; narrow = h; type = refl }

-- ---- the laws

pub all_words :
    (w : Surroundings) (code : List Instr) (c : Callee) (p : Point) (numbers : ℕ → ℕ) → HasWords w code c p numbers →
    AreAllBegun w code c p numbers (words_in c.environment)
all_words w code c p numbers h =
    let e = c.environment in
    let ds = variables_of_block e.program e.block in
    let first = fixed_size e.level 0 in
    let at = places_are e.parts first ds h.plain h.room.counted in
    let start : fixed_size e.level (length (parameters_of_block e.program e.block)) ≡ first =
    ap (λ (ns : List ℕ). fixed_size e.level (length ns)) h.bare in
    record {
      kind = h.kind;
      those =
          subst (λ us. AreThose 0 (words_in e) us)
          (ap (λ q. variables_of_block q e.block) (sym h.program)
          ∙ ap (λ n. variables_of_block c.around.program n) h.block)
          (words_those e first 0 ds);
      listed = words_listed e first 0 ds h.plain;
      code =
          h.coded
          ∙ words_code e c.procedure.head.line first 0 ds h.plain
          (λ i less.
          ap (λ n. variable_place e.parts n ds (0 + i)) start
          ∙ ap (λ n. variable_place e.parts first ds n) (omega arith)
          ∙ at i less);
      made = h.made;
      parts = h.parts;
      few = few_words e first 0 ds w.serials h.few;
      declared =
          words_declared w code (begun_at w c p numbers) (layer_for w p numbers c.procedure c.calling) p.control.layers
          e first 0 ds h.plain h.tabled h.begin h.room;
    }
  where
    few_words :
        (e : Environment) (place index : ℕ) (ds : List Y.DeclaredVariable) (n : ℕ) → length ds ≤ n →
        length (words_from e place index ds) ≤ n
    few_words e place index [] n less = less
    few_words e place index (d ∷ ds) zero less = absurd (omega (arith, less))
    few_words e place index (d ∷ ds) (suc n) less =
        let rest = few_words e (place + variable_bytes d) (index + 1) ds n (omega (arith, less)) in
        omega (arith, rest)

-- its serials are those of no area
none_worded :
    (e : Environment) (serials place index : ℕ) (ds : List Y.DeclaredVariable) → are_plain ds ≡ true →
    HaveWords serials (words_from e place index ds)
none_worded e serials place index [] h = tt
none_worded e serials place index (d ∷ ds) h =
    let a = and_parts (is_declared d) (are_plain ds) h in (
      λ some. absurd (cc (sym some ∙ ap is_some (makeable d a.0).fixed)),
      none_worded e (serials + 1) (place + variable_bytes d) (index + 1) ds a.1,
    )

pub words_anywhere :
    (k : Block) (c : Callee) (p : Point) (numbers : ℕ → ℕ) → IsBegun k → IsAmong k numbers p →
    HasWords k.call.surroundings k.call.code c k.first numbers →
    AreAllBegun k.call.surroundings k.call.code c p numbers (words_in c.environment)
words_anywhere k c p numbers b o h =
    begun_among k c (words_in c.environment) p numbers numbers b o
    (none_worded c.environment p.state.serials (fixed_size c.environment.level 0) 0
    (variables_of_block c.environment.program c.environment.block) h.plain)
    (all_words k.call.surroundings k.call.code c k.first numbers h)

-- each of them stands where code looks for it
pub own_place :
    (w : Surroundings) (code : List Instr) (c : Callee) (q : Point) (numbers : ℕ → ℕ) (x : Spot)
    (d : Y.DeclaredVariable) → HasWords w code c q numbers →
    (x.block ≡ c.environment.block) × (x.level ≡ c.environment.level) →
    declared_variable c.environment.program (variable_of x) ≡ Some d →
    IsOwn c
    (word_made c.environment
    (fixed_size c.environment.level 0 + bytes_before (variables_of_block c.environment.program c.environment.block)
    x.index) (0 + x.index) d) x
    × Among
    (word_made c.environment
    (fixed_size c.environment.level 0 + bytes_before (variables_of_block c.environment.program c.environment.block)
    x.index) (0 + x.index) d) (words_in c.environment)
own_place w code c q numbers x d h own is =
    let e = c.environment in
    let ds = variables_of_block e.program e.block in
    let first = fixed_size e.level 0 in
    let there = ap (λ n. slice_get (variables_of_block e.program n) x.index) (sym own.0) ∙ is in
    let less = slice_less ds x.index d there in
    let at = places_are e.parts first ds h.plain h.room.counted in
    let start : fixed_size e.level (length (parameters_of_block e.program e.block)) ≡ first =
    ap (λ (ns : List ℕ). fixed_size e.level (length ns)) h.bare in (
      record {
        declared = is;
        index = omega arith;
        level = own.1 ∙ h.level;
        own = h.level;
        place =
            ap (λ n. automatic_place e.parts e.program n x.level x.index) own.0
            ∙ ap (λ n. automatic_place e.parts e.program e.block n x.index) own.1
            ∙ ap (λ n. variable_place e.parts n ds x.index) start ∙ at x.index less;
      },
      words_among e first 0 x.index ds d there,
    )

-- each of them is known in the block
own_known :
    (w : Surroundings) (code : List Instr) (c : Callee) (p q : Point) (numbers : ℕ → ℕ) (x : Spot)
    (d : Y.DeclaredVariable) → HasParts w.parts →
    HasWords w code c q numbers × AreAllBegun w code c p numbers (words_in c.environment) →
    (x.block ≡ c.environment.block) × (x.level ≡ c.environment.level) →
    declared_variable c.environment.program (variable_of x) ≡ Some d → IsBegun (block_at w code c p numbers) →
    IsKnown (block_at w code c p numbers) x d
own_known w code c p q numbers x d parts known own is b =
    let e = c.environment in
    let ds = variables_of_block e.program e.block in
    let o = own_place w code c q numbers x d known.0 own is in
    known_begun w code c p numbers (words_in e)
    (word_made e (fixed_size e.level 0 + bytes_before ds x.index) (0 + x.index) d) x parts known.1 o.1 o.0 b

-- a function's block has the frame that a procedure's would have
function_known :
    (w : Surroundings) (code : List Instr) (c : Callee) (p q : Point) (numbers : ℕ → ℕ) (x : Spot)
    (d : Y.DeclaredVariable) → HasParts w.parts →
    HasWords w code c q numbers × AreAllBegun w code c p numbers (words_in c.environment) →
    (x.block ≡ c.environment.block) × (x.level ≡ c.environment.level) →
    declared_variable c.environment.program (variable_of x) ≡ Some d → IsBegun (function_block w code c p numbers) →
    IsKnown (function_block w code c p numbers) x d
function_known w code c p q numbers x d parts known own is b =
    let n =
    own_known w code c p q numbers x d parts known own is
    (record { activation = b.activation; resumes = b.resumes; acts = b.acts; remains = b.remains; outer = b.outer }) in
    record {
      declared = n.declared;
      serial = n.serial;
      binding = n.binding;
      living = n.living;
      lives = n.lives;
      shape = n.shape;
      base = n.base;
      frame = n.frame;
      at = n.at;
      low = n.low;
      inside = n.inside;
    }

-- an array that is known has the bounds of its declaration
pub array_known :
    (k : Block) (x : Spot) (o : Option Y.DeclaredVariable) (f : FoundArray o) → IsKnown k x f.declared →
    IsArray k x (grid_if o)
array_known k x o f known =
    subst (λ b. IsArray k x b) (sym f.bounds)
    (record {
      initial = values_of f.declared;
      known = subst (λ d. IsKnown k x d) (array_is f.declared f.array) known;
      type = type_of (grid_of f.declared f.array);
      bounds = (grid_of f.declared f.array).bounds;
      some = (grid_of f.declared f.array).some;
    })

-- and a scalar of fewer bits the type
pub narrow_known :
    (k : Block) (x : Spot) (o : Option Y.DeclaredVariable) (f : FoundNarrow o) → IsKnown k x f.declared →
    IsScalar k x (type_if o)
narrow_known k x o f known =
    subst (λ t. IsScalar k x t) (sym f.type)
    (record {
      initial = values_of f.declared;
      known = subst (λ d. IsKnown k x d) (narrow_is f.declared f.narrow) known;
    })

pub own_word :
    (w : Surroundings) (code : List Instr) (c : Callee) (p q : Point) (numbers : ℕ → ℕ) (x : Spot) →
    HasParts w.parts → HasWords w code c q numbers × AreAllBegun w code c p numbers (words_in c.environment) →
    IsOwnWord c x → IsBegun (block_at w code c p numbers) → IsNumber (block_at w code c p numbers) x
own_word w code c p q numbers x parts known own b =
    let there = found (declared_variable c.environment.program (variable_of x)) own.plain in
    known_number (block_at w code c p numbers) x there.initial
    (own_known w code c p q numbers x (number_declared there.initial) parts known (own.block, own.level) there.is b)

pub own_array :
    (w : Surroundings) (code : List Instr) (c : Callee) (p q : Point) (numbers : ℕ → ℕ) (x : Spot) →
    HasParts w.parts → HasWords w code c q numbers × AreAllBegun w code c p numbers (words_in c.environment) →
    IsOwnArray c x → IsBegun (block_at w code c p numbers) → IsArray (block_at w code c p numbers) x (own_grid c x)
own_array w code c p q numbers x parts known own b =
    let o = declared_variable c.environment.program (variable_of x) in
    let there = found_array o own.array in
    array_known (block_at w code c p numbers) x o there
    (own_known w code c p q numbers x there.declared parts known (own.block, own.level) there.is b)

pub function_word :
    (w : Surroundings) (code : List Instr) (c : Callee) (p q : Point) (numbers : ℕ → ℕ) (x : Spot) →
    HasParts w.parts → HasWords w code c q numbers × AreAllBegun w code c p numbers (words_in c.environment) →
    IsOwnWord c x → IsBegun (function_block w code c p numbers) → IsNumber (function_block w code c p numbers) x
function_word w code c p q numbers x parts known own b =
    let there = found (declared_variable c.environment.program (variable_of x)) own.plain in
    known_number (function_block w code c p numbers) x there.initial
    (function_known w code c p q numbers x (number_declared there.initial) parts known (own.block, own.level) there.is
    b)

pub function_array :
    (w : Surroundings) (code : List Instr) (c : Callee) (p q : Point) (numbers : ℕ → ℕ) (x : Spot) →
    HasParts w.parts → HasWords w code c q numbers × AreAllBegun w code c p numbers (words_in c.environment) →
    IsOwnArray c x →
    IsBegun (function_block w code c p numbers) → IsArray (function_block w code c p numbers) x (own_grid c x)
function_array w code c p q numbers x parts known own b =
    let o = declared_variable c.environment.program (variable_of x) in
    let there = found_array o own.array in
    array_known (function_block w code c p numbers) x o there
    (function_known w code c p q numbers x there.declared parts known (own.block, own.level) there.is b)

pub own_narrow :
    (w : Surroundings) (code : List Instr) (c : Callee) (p q : Point) (numbers : ℕ → ℕ) (x : Spot) →
    HasParts w.parts → HasWords w code c q numbers × AreAllBegun w code c p numbers (words_in c.environment) →
    IsOwnNarrow c x → IsBegun (block_at w code c p numbers) → IsScalar (block_at w code c p numbers) x (own_type c x)
own_narrow w code c p q numbers x parts known own b =
    let o = declared_variable c.environment.program (variable_of x) in
    let there = found_narrow o own.narrow in
    narrow_known (block_at w code c p numbers) x o there
    (own_known w code c p q numbers x there.declared parts known (own.block, own.level) there.is b)

pub function_narrow :
    (w : Surroundings) (code : List Instr) (c : Callee) (p q : Point) (numbers : ℕ → ℕ) (x : Spot) →
    HasParts w.parts → HasWords w code c q numbers × AreAllBegun w code c p numbers (words_in c.environment) →
    IsOwnNarrow c x →
    IsBegun (function_block w code c p numbers) → IsScalar (function_block w code c p numbers) x (own_type c x)
function_narrow w code c p q numbers x parts known own b =
    let o = declared_variable c.environment.program (variable_of x) in
    let there = found_narrow o own.narrow in
    narrow_known (function_block w code c p numbers) x o there
    (function_known w code c p q numbers x there.declared parts known (own.block, own.level) there.is b)
