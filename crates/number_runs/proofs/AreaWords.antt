-- The variables of a block, areas among them: each is made where the frame ends, behind the one before it, and what is
-- BASED takes nothing.
use Rattle.std.proofs.Common.{◌≡◌, ◌⊎◌, inl, inr, ℕ, zero, suc, ◌+◌, ◌^◌, ◌<◌, ◌≤◌, List, [], ◌∷◌, ◌++◌, length}
use Rattle.std.proofs.Common.{Some, true, false, refl, sym, ap, ◌∙◌, subst, arith}
use Rattle.std.specs.Prelude.{◌%◌, ◌||◌, Bool, if◌then◌else◌, min, slice_get}
use Rattle.std.proofs.lemmas.Bool.{and_parts, or_cases}
use Rattle.rv_meaning.specs.declared.instr.Instr.{Instr}
use Rattle.pli_typing.specs.TypedTree as Y
use Rattle.pli_meaning.specs.Contents.{footprint_of}
use Rattle.pli_meaning.specs.Making.{living_at}
use Rattle.pli_meaning.specs.StorageState.{newest_height}
use Rattle.run_keeper.specs.RunKeeper.{run_keeper}
use Rattle.pli_coding.specs.Assembly.{Code}
use Rattle.pli_coding.specs.Entries.{adjustable_made, automatic_made, constant_made, variables_made}
use Rattle.pli_coding.specs.Environments.{Environment}
use Rattle.pli_coding.specs.Frames.{MemoryParts, automatic_place, frame_bytes, has_constant_size, is_automatic}
use Rattle.pli_coding.specs.Frames.{last_place, variable_place}
use Rattle.activation_relation.specs.Layers.{Layer, Point}
use Rattle.activation_relation.specs.Points.{Surroundings}
use Rattle.program_runs.specs.Initial.{Begins}
use Rattle.program_runs.specs.Variables.{Declared, generation_for}
use Rattle.variable_runs.specs.Areas.{IsArea}
use Rattle.variable_runs.specs.Lists.{AllMayBegin, Among, AreListed, AreThose, MayBegin, all_made, behind_made}
use Rattle.variable_runs.specs.Lists.{layer_after, layer_behind, made_code}
use Rattle.variable_runs.proofs.Lists.{next_layers}
use Rattle.number_runs.specs.Areas.{held_bytes, held_from, with_held}
use Rattle.number_runs.specs.Based.{is_area, is_based}
use Rattle.number_runs.specs.Variables.{AreTabled, EachBegins, HaveRoom, IsTabled, are_any, is_any, is_declared}
use Rattle.number_runs.proofs.Areas.{area_frame, area_made, constant_area}
use Rattle.number_runs.proofs.Based.{area_is, based_declared_is}
use Rattle.number_runs.proofs.Declared.{makeable, sized}
use Rattle.number_runs.proofs.Words.{counts_more, one_declared, word_made}

-- by whether the first one is BASED
pub held_cases :
    (P : List Declared → Type 0) (q : Bool) (x : Declared) (rest : List Declared) → (q ≡ true → P rest) →
    (q ≡ false → P (x ∷ rest)) → P (with_held q x rest)
held_cases P true x rest one other = one refl
held_cases P false x rest one other = other refl

-- what isn't is made
pub held_is : (d : Y.DeclaredVariable) → is_any d ≡ true → is_based d ≡ false → (is_declared d || is_area d) ≡ true
held_is d h none = by (or_cases (is_based d) (is_declared d || is_area d) h)
  where
    by : (is_based d ≡ true) ⊎ ((is_declared d || is_area d) ≡ true) → (is_declared d || is_area d) ≡ true
    by (inl based) = absurd (cc (sym none ∙ based))
    by (inr held) = held

-- ---- one of them

-- what is so of each that is made
pub record IsHeld (parts : MemoryParts) (d : Y.DeclaredVariable) : Type 0 where
  pub class : d.class ≡ Y.AutomaticClass
  pub evaluations : d.evaluations ≡ []
  pub constant : has_constant_size d ≡ true
  pub even : frame_bytes parts d % 16 ≡ 0
  pub counts : (e : Environment) (place index : ℕ) →
      footprint_of (generation_for (word_made e place index d)) ≤ frame_bytes parts d

declared_held : (parts : MemoryParts) (d : Y.DeclaredVariable) → is_declared d ≡ true → IsHeld parts d
declared_held parts d h =
    let m = makeable d h in
    let frame = m.frame parts in
    let whole' = (sized d h).even in
    let counts = m.counts in
    record {
      class = m.class;
      evaluations = m.evaluations;
      constant = m.constant;
      even = ap (λ n. n % 16) frame ∙ whole';
      counts = λ e place index. omega (arith, counts, frame);
    }

area_held :
    (parts : MemoryParts) (d : Y.DeclaredVariable) → parts.area_bytes ≡ run_keeper.bytes_for → is_area d ≡ true →
    IsHeld parts d
area_held parts d keeper h =
    let a = area_is d h in
    let f = area_frame parts a.bytes keeper a.few in
    subst (IsHeld parts) (sym a.is)
    (record {
      class = refl;
      evaluations = refl;
      constant = constant_area a.bytes a.few;
      even = f.even;
      counts = f.counts;
    })

pub held :
    (parts : MemoryParts) (d : Y.DeclaredVariable) → parts.area_bytes ≡ run_keeper.bytes_for →
    (is_declared d || is_area d) ≡ true → IsHeld parts d
held parts d keeper h = by (or_cases (is_declared d) (is_area d) h)
  where
    by : (is_declared d ≡ true) ⊎ (is_area d ≡ true) → IsHeld parts d
    by (inl one) = declared_held parts d one
    by (inr area) = area_held parts d keeper area

-- what is BASED takes nothing
based_bytes : (parts : MemoryParts) (d : Y.DeclaredVariable) → is_based d ≡ true → frame_bytes parts d ≡ 0
based_bytes parts d h = ap (frame_bytes parts) (based_declared_is d h).0

based_other : (d : Y.DeclaredVariable) → is_based d ≡ true → is_automatic d.class ≡ false
based_other d h = ap (λ (u : Y.DeclaredVariable). is_automatic u.class) (based_declared_is d h).0

-- ---- where they are made

one_held :
    (w : Surroundings) (code : List Instr) (p : Point) (φ : Layer) (φs : List Layer) (e : Environment)
    (place index more : ℕ) (d : Y.DeclaredVariable) → w.parts.area_bytes ≡ run_keeper.bytes_for →
    (is_declared d || is_area d) ≡ true → IsTabled e p.places.signatures d →
    Begins p.places.constants code w.links.data' d → p.state.serials + 1 < 2 ^ 64 →
    HaveRoom w p φ φs place (frame_bytes w.parts d + more) → MayBegin w code p (word_made e place index d) φ φs
one_held w code p φ φs e place index more d keeper h table begins serial room =
    by (or_cases (is_declared d) (is_area d) h)
  where
    by : (is_declared d ≡ true) ⊎ (is_area d ≡ true) → MayBegin w code p (word_made e place index d) φ φs
    by (inl one) =
        inl (one_declared w code p φ φs e place index more d one table begins
        (subst (λ n. HaveRoom w p φ φs place (n + more)) ((makeable d one).frame w.parts) room))
    by (inr area) =
        let a = area_is d area in
        inr (subst (λ u. IsTabled e p.places.signatures u → HaveRoom w p φ φs place (frame_bytes w.parts u + more) →
        IsArea w p (word_made e place index u) φ φs) (sym a.is)
        (λ t r. area_made w p φ φs e place index more a.bytes keeper a.few t serial r) table room)

next_held :
    (w : Surroundings) (p : Point) (φ : Layer) (φs : List Layer) (e : Environment) (place index more : ℕ)
    (d : Y.DeclaredVariable) → IsHeld w.parts d → HaveRoom w p φ φs place (frame_bytes w.parts d + more) →
    HaveRoom w (behind_made w.parts φ (word_made e place index d) p)
    (layer_behind w.parts (p.state.serials + 1) φ (word_made e place index d)) φs (place + frame_bytes w.parts d) more
next_held w p φ φs e place index more d is h =
    let here = h.here in
    let even = h.even in
    let counted = h.counted in
    let fits = h.fits in
    let limit = h.limit in
    let x = word_made e place index d in
    let whole' = is.even in
    let counts = is.counts e place index in
    let l = living_at (p.state.serials + 1) (newest_height p.state.activations) (generation_for x) in
    let now = counts_more l p.state.living (footprint_of (generation_for x)) in
    record {
      newest = next_layers w p x φ φs h.newest;
      here = omega (arith, here, counted);
      even = omega (arith, here, even, counted, whole');
      counted = omega (arith, counted);
      fits = omega (arith, here, fits, counted);
      low = h.low;
      limit = omega (arith, limit, now, counts);
    }

-- as much room is left behind one that takes nothing
based_room :
    (w : Surroundings) (p : Point) (φ : Layer) (φs : List Layer) (place more : ℕ) (d : Y.DeclaredVariable) →
    is_based d ≡ true → HaveRoom w p φ φs place (frame_bytes w.parts d + more) →
    HaveRoom w p φ φs (place + frame_bytes w.parts d) more
based_room w p φ φs place more d is h =
    let none = based_bytes w.parts d is in
    subst (λ n. HaveRoom w p φ φs n more) (omega (arith, none))
    (subst (λ n. HaveRoom w p φ φs place n) (omega (arith, none)) h)

-- each has a serial number of two words
next_serial : (serials count : ℕ) → serials + suc count < 2 ^ 64 → (serials + 1) + count < 2 ^ 64
next_serial serials count h = omega (arith, h)

pub held_declared :
    (w : Surroundings) (code : List Instr) (p : Point) (φ : Layer) (φs : List Layer) (e : Environment)
    (place index : ℕ) (ds : List Y.DeclaredVariable) → e.parts ≡ w.parts →
    w.parts.area_bytes ≡ run_keeper.bytes_for → are_any ds ≡ true → AreTabled e p.places.signatures ds →
    EachBegins p.places.constants code w.links.data' ds → p.state.serials + length ds < 2 ^ 64 →
    HaveRoom w p φ φs place (held_bytes w.parts ds) → AllMayBegin w code p φ φs (held_from e place index ds)
held_declared w code p φ φs e place index [] same keeper is tabled begin few h = tt
held_declared w code p φ φs e place index (d ∷ ds) same keeper is tabled begin few h =
    let a = and_parts (is_any d) (are_any ds) is in
    let x = word_made e place index d in
    let rest = held_from e (place + frame_bytes e.parts d) (index + 1) ds in
    let at = ap (λ parts. place + frame_bytes parts d) same in
    held_cases (λ xs. AllMayBegin w code p φ φs xs) (is_based d) x rest
    (λ based.
    held_declared w code p φ φs e (place + frame_bytes e.parts d) (index + 1) ds same keeper a.1 tabled.1 begin.1
    (omega (arith, few))
    (subst (λ n. HaveRoom w p φ φs n (held_bytes w.parts ds)) (sym at)
    (based_room w p φ φs place (held_bytes w.parts ds) d based h)))
    (λ none. let one = held_is d a.0 none in (
      one_held w code p φ φs e place index (held_bytes w.parts ds) d keeper one tabled.0 begin.0 (omega (arith, few)) h,
      held_declared w code (behind_made w.parts φ x p) (layer_behind w.parts (p.state.serials + 1) φ x) φs e
          (place + frame_bytes e.parts d) (index + 1) ds same keeper a.1 tabled.1 begin.1
          (next_serial p.state.serials (length ds) few)
          (subst (λ n. HaveRoom w (behind_made w.parts φ x p)
          (layer_behind w.parts (p.state.serials + 1) φ x) φs n (held_bytes w.parts ds)) (sym at)
          (next_held w p φ φs e place index (held_bytes w.parts ds) d (held w.parts d keeper one) h)),
    ))

-- where they have been made, there is room for what is left
pub held_behind :
    (w : Surroundings) (p : Point) (φ : Layer) (φs : List Layer) (e : Environment) (place index more : ℕ)
    (ds : List Y.DeclaredVariable) → e.parts ≡ w.parts → w.parts.area_bytes ≡ run_keeper.bytes_for →
    are_any ds ≡ true → HaveRoom w p φ φs place (held_bytes w.parts ds + more) →
    HaveRoom w (all_made w.parts φ (held_from e place index ds) p)
    (layer_after w.parts (p.state.serials + 1) φ (held_from e place index ds)) φs (place + held_bytes w.parts ds) more
held_behind w p φ φs e place index more [] same keeper is h =
    subst (λ n. HaveRoom w p φ φs n more) (omega arith)
    (subst (λ n. HaveRoom w p φ φs place n) (omega arith) h)
held_behind w p φ φs e place index more (d ∷ ds) same keeper is h =
    let a = and_parts (is_any d) (are_any ds) is in
    let x = word_made e place index d in
    let here = frame_bytes w.parts d in
    let left' = held_bytes w.parts ds in
    let rest = held_from e (place + frame_bytes e.parts d) (index + 1) ds in
    let at = ap (λ parts. place + frame_bytes parts d) same in
    let all : here + left' + more ≡ here + (left' + more) = omega arith in
    let last : place + frame_bytes e.parts d + left' ≡ place + (here + left') = omega (arith, at) in
    let room = subst (λ n. HaveRoom w p φ φs place n) all h in
    held_cases (λ xs. HaveRoom w (all_made w.parts φ xs p) (layer_after w.parts (p.state.serials + 1) φ xs) φs
    (place + (here + left')) more) (is_based d) x rest
    (λ based.
    subst (λ n. HaveRoom w (all_made w.parts φ rest p) (layer_after w.parts (p.state.serials + 1) φ rest) φs n more)
    last
    (held_behind w p φ φs e (place + frame_bytes e.parts d) (index + 1) more ds same keeper a.1
    (subst (λ n. HaveRoom w p φ φs n (left' + more)) (sym at)
    (based_room w p φ φs place (left' + more) d based room))))
    (λ none. let one = held_is d a.0 none in
    subst (λ n. HaveRoom w (all_made w.parts (layer_behind w.parts (p.state.serials + 1) φ x) rest
    (behind_made w.parts φ x p))
    (layer_after w.parts (p.state.serials + 1 + 1) (layer_behind w.parts (p.state.serials + 1) φ x) rest) φs n more)
    last
    (held_behind w (behind_made w.parts φ x p) (layer_behind w.parts (p.state.serials + 1) φ x) φs e
    (place + frame_bytes e.parts d) (index + 1) more ds same keeper a.1
    (subst (λ n. HaveRoom w (behind_made w.parts φ x p)
    (layer_behind w.parts (p.state.serials + 1) φ x) φs n (left' + more)) (sym at)
    (next_held w p φ φs e place index (left' + more) d (held w.parts d keeper one) room))))

-- ---- what the program declares

those_behind :
    (n : ℕ) (xs : List Declared) (d : Y.DeclaredVariable) (ds : List Y.DeclaredVariable) →
    is_automatic d.class ≡ false → AreThose (n + 1) xs ds → AreThose n xs (d ∷ ds)
those_behind n [] d ds other h = (other, h)
those_behind n (x ∷ xs) d ds other h = inr (other, h)

pub held_those :
    (e : Environment) (place index : ℕ) (ds : List Y.DeclaredVariable) → AreThose index (held_from e place index ds) ds
held_those e place index [] = tt
held_those e place index (d ∷ ds) =
    let rest = held_from e (place + frame_bytes e.parts d) (index + 1) ds in
    let more = held_those e (place + frame_bytes e.parts d) (index + 1) ds in
    held_cases (λ xs. AreThose index xs (d ∷ ds)) (is_based d) (word_made e place index d) rest
    (λ based. those_behind index rest d ds (based_other d based) more) (λ none. inl (refl, refl, more))

listed_behind : (e : Environment) (n : ℕ) (xs : List Declared) → AreListed e (n + 1) xs → AreListed e n xs
listed_behind e n [] h = tt
listed_behind e n (x ∷ xs) h =
    let late = h.0.late in (
      record {
        class = h.0.class;
        evaluations = h.0.evaluations;
        late = omega (arith, late);
        table = h.0.table;
      },
      h.1,
    )

pub held_listed :
    (e : Environment) (place index : ℕ) (ds : List Y.DeclaredVariable) →
    e.parts.area_bytes ≡ run_keeper.bytes_for → are_any ds ≡ true → AreListed e index (held_from e place index ds)
held_listed e place index [] keeper is = tt
held_listed e place index (d ∷ ds) keeper is =
    let a = and_parts (is_any d) (are_any ds) is in
    let rest = held_from e (place + frame_bytes e.parts d) (index + 1) ds in
    let more = held_listed e (place + frame_bytes e.parts d) (index + 1) ds keeper a.1 in
    held_cases (λ xs. AreListed e index xs) (is_based d) (word_made e place index d) rest
    (λ based. listed_behind e index rest more)
    (λ none. let m = held e.parts d keeper (held_is d a.0 none) in (
      record { class = m.class; evaluations = m.evaluations; late = omega arith; table = refl },
      more,
    ))

pub held_few :
    (e : Environment) (place index : ℕ) (ds : List Y.DeclaredVariable) → length (held_from e place index ds) ≤ length ds
held_few e place index [] = omega arith
held_few e place index (d ∷ ds) =
    let rest = held_from e (place + frame_bytes e.parts d) (index + 1) ds in
    let more = held_few e (place + frame_bytes e.parts d) (index + 1) ds in
    held_cases (λ xs. length xs ≤ suc (length ds)) (is_based d) (word_made e place index d) rest
    (λ based. omega (arith, more)) (λ none. omega (arith, more))

-- ---- their code

-- what those before one take
abbrev pub held_before : MemoryParts → List Y.DeclaredVariable → (index : ℕ) → ℕ
held_before parts [] index = 0
held_before parts (d ∷ ds) zero = 0
held_before parts (d ∷ ds) (suc index) = frame_bytes parts d + held_before parts ds index

pub held_places :
    (parts : MemoryParts) (at : ℕ) (ds : List Y.DeclaredVariable) → at + held_bytes parts ds ≤ last_place → (i : ℕ) →
    i < length ds → variable_place parts at ds i ≡ at + held_before parts ds i
held_places parts at [] fits i less = absurd (omega (arith, less))
held_places parts at (d ∷ ds) fits zero less = omega arith
held_places parts at (d ∷ ds) fits (suc i) less =
    let next' : min last_place (at + frame_bytes parts d) ≡ at + frame_bytes parts d = omega (arith, fits) in
    let rest = held_places parts (at + frame_bytes parts d) ds (omega (arith, fits)) i (omega (arith, less)) in
    ap (λ n. variable_place parts n ds i) next' ∙ rest ∙ omega arith

-- one that is made
held_code :
    (e : Environment) (line place : ℕ) (d : Y.DeclaredVariable) (rest : Code) → IsHeld e.parts d →
    (if is_automatic d.class then automatic_made e line place d else []) ++ rest ≡ constant_made e place d ++ rest
held_code e line place d rest m =
    ap (λ c. (if is_automatic c then automatic_made e line place d else []) ++ rest) m.class
    ∙ ap (λ q. (if q then constant_made e place d else adjustable_made e line place d) ++ rest) m.constant

based_code :
    (e : Environment) (line place : ℕ) (d : Y.DeclaredVariable) (rest : Code) → is_based d ≡ true →
    (if is_automatic d.class then automatic_made e line place d else []) ++ rest ≡ rest
based_code e line place d rest based =
    ap (λ q. (if q then automatic_made e line place d else []) ++ rest) (based_other d based)

pub held_coded :
    (e : Environment) (line place index : ℕ) (ds : List Y.DeclaredVariable) →
    e.parts.area_bytes ≡ run_keeper.bytes_for → are_any ds ≡ true →
    ((i : ℕ) → i < length ds →
    automatic_place e.parts e.program e.block e.level (index + i) ≡ place + held_before e.parts ds i) →
    variables_made e line index ds ≡ made_code e (held_from e place index ds)
held_coded e line place index [] keeper h at = refl
held_coded e line place index (d ∷ ds) keeper h at =
    let a = and_parts (is_any d) (are_any ds) h in
    let rest = variables_made e line (suc index) ds in
    let mine = automatic_place e.parts e.program e.block e.level index in
    let here : mine ≡ place =
    ap (λ n. automatic_place e.parts e.program e.block e.level n) (omega arith) ∙ at 0 (omega arith) ∙ omega arith in
    let n : suc index ≡ index + 1 = omega arith in
    let xs = held_from e (place + frame_bytes e.parts d) (index + 1) ds in
    let more : rest ≡ made_code e xs =
    ap (λ m. variables_made e line m ds) n
    ∙ held_coded e line (place + frame_bytes e.parts d) (index + 1) ds keeper a.1
    (λ i less. ap (λ m. automatic_place e.parts e.program e.block e.level m) (omega arith)
    ∙ at (suc i) (omega (arith, less)) ∙ omega arith) in
    held_cases (λ ys. variables_made e line index (d ∷ ds) ≡ made_code e ys) (is_based d)
    (word_made e place index d) xs
    (λ based. based_code e line mine d rest based ∙ more)
    (λ none.
    held_code e line mine d rest (held e.parts d keeper (held_is d a.0 none))
    ∙ ap (λ m. constant_made e m d ++ rest) here
    ∙ ap (λ code. constant_made e place d ++ code) more)

-- ---- one among them

pub held_among :
    (e : Environment) (place index i : ℕ) (ds : List Y.DeclaredVariable) (d : Y.DeclaredVariable) →
    slice_get ds i ≡ Some d → is_based d ≡ false →
    Among (word_made e (place + held_before e.parts ds i) (index + i) d) (held_from e place index ds)
held_among e place index i [] d is none = absurd (cc is)
held_among e place index zero (u ∷ ds) d is none =
    let at : place + 0 ≡ place = omega arith in
    let n : index + 0 ≡ index = omega arith in
    let same : u ≡ d = cc is in
    held_cases (λ xs. Among (word_made e (place + 0) (index + 0) d) xs) (is_based u) (word_made e place index u)
    (held_from e (place + frame_bytes e.parts u) (index + 1) ds)
    (λ based. absurd (cc (sym none ∙ ap is_based (sym same) ∙ based)))
    (λ other.
    inl (ap (λ m. word_made e m (index + 0) d) at ∙ ap (λ m. word_made e place m d) n
    ∙ ap (λ v. word_made e place index v) (sym same)))
held_among e place index (suc i) (u ∷ ds) d is none =
    let bytes = frame_bytes e.parts u in
    let before = held_before e.parts ds i in
    let at : place + bytes + before ≡ place + (bytes + before) = omega arith in
    let n : index + 1 + i ≡ index + suc i = omega arith in
    let rest = held_from e (place + bytes) (index + 1) ds in
    let there =
    subst (λ m. Among (word_made e m (index + suc i) d) rest) at
    (subst (λ m. Among (word_made e (place + bytes + before) m d) rest) n
    (held_among e (place + bytes) (index + 1) i ds d is none)) in
    held_cases (λ xs. Among (word_made e (place + (bytes + before)) (index + suc i) d) xs) (is_based u)
    (word_made e place index u) rest (λ based. there) (λ other. inr there)
