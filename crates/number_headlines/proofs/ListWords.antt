-- The variables that a block of the class has behind its parameters: what the program declares, their code, and what
-- making them means.
use Rattle.std.proofs.Common.{◌≡◌, ℕ, zero, suc, ◌+◌, ◌<◌, ◌≤◌, List, [], ◌∷◌, Option, Some, Bool, true, false, inr}
use Rattle.std.proofs.Common.{length, refl, sym, ap, ◌∙◌, subst, arith}
use Rattle.std.specs.Prelude.{if◌then◌else◌, min, slice_get}
use Rattle.std.proofs.lemmas.Bool.{and_parts}
use Rattle.rv_meaning.specs.declared.instr.Instr.{Instr}
use Rattle.pli_typing.specs.TypedTree as Y
use Rattle.pli_meaning.specs.Control.{give, ◌>>=◌, ◌>>◌}
use Rattle.pli_meaning.specs.Making as K
use Rattle.pli_meaning.specs.Raising.{Around}
use Rattle.pli_meaning.specs.StorageState.{State}
use Rattle.pli_types.specs.Templates.{Template}
use Rattle.pli_coding.specs.Entries.{variables_made}
use Rattle.pli_coding.specs.Environments.{Environment}
use Rattle.pli_coding.specs.Frames.{MemoryParts, frame_bytes, is_automatic, last_place, variable_place}
use Rattle.program_runs.specs.Variables.{Declared}
use Rattle.variable_runs.specs.Lists.{AreThose}
use Rattle.list_calls.specs.Lists.{Parameter}
use Rattle.pli_coding.specs.StaticData.{PlacedDatum}
use Rattle.number_runs.specs.Numbers.{is_parameter, is_parameter_if}
use Rattle.number_runs.specs.Variables.{AreTabled, EachBegins, are_plain, bytes_of, is_declared, variable_bytes}
use Rattle.number_runs.specs.Variables.{words_from}
use Rattle.number_runs.proofs.Variables.{parameter_declared_is}
use Rattle.number_headlines.specs.Programs.{are_parameters, beside_received, received_in}
use Rattle.number_headlines.proofs.ListPlaces.{parameters_at}

-- ---- those behind so many parameters

abbrev pub IsBehind : (n : ℕ) → (ds es : List Y.DeclaredVariable) → Type 0
IsBehind zero ds es = ds ≡ es
IsBehind (suc n) [] es = ⊥
IsBehind (suc n) (d ∷ ds) es = (is_parameter d ≡ true) × IsBehind n ds es

pub behind_here : (ds : List Y.DeclaredVariable) → IsBehind (received_in ds) ds (beside_received ds)
behind_here [] = refl
behind_here (d ∷ ds) = by (is_parameter d) refl (behind_here ds)
  where
    by :
        (q : Bool) → is_parameter d ≡ q → IsBehind (received_in ds) ds (beside_received ds) →
        IsBehind (if q then suc (received_in ds) else 0) (d ∷ ds) (if q then beside_received ds else d ∷ ds)
    by true e rest = (e, rest)
    by false e rest = refl

pub many_behind : (n : ℕ) (ds es : List Y.DeclaredVariable) → IsBehind n ds es → n + length es ≡ length ds
many_behind zero ds es is = let e = ap (λ (us : List Y.DeclaredVariable). length us) is in omega (arith, e)
many_behind (suc n) [] es is = absurd is
many_behind (suc n) (d ∷ ds) es is = let rest = many_behind n ds es is.1 in omega (arith, rest)

pub bytes_behind : (n : ℕ) (ds es : List Y.DeclaredVariable) → IsBehind n ds es → bytes_of es ≤ bytes_of ds
bytes_behind zero ds es is = let e = ap (λ us. bytes_of us) is in omega (arith, e)
bytes_behind (suc n) [] es is = absurd is
bytes_behind (suc n) (d ∷ ds) es is = let rest = bytes_behind n ds es is.1 in omega (arith, rest)

pub tabled_behind :
    (e : Environment) (signatures : List Template) (n : ℕ) (ds es : List Y.DeclaredVariable) → IsBehind n ds es →
    AreTabled e signatures ds → AreTabled e signatures es
tabled_behind e signatures zero ds es is h = subst (λ us. AreTabled e signatures us) is h
tabled_behind e signatures (suc n) [] es is h = absurd is
tabled_behind e signatures (suc n) (d ∷ ds) es is h = tabled_behind e signatures n ds es is.1 h.1

pub begins_behind :
    (constants : ℕ → Option ℕ) (code : List Instr) (all : List PlacedDatum) (n : ℕ) (ds es : List Y.DeclaredVariable) →
    IsBehind n ds es → EachBegins constants code all ds → EachBegins constants code all es
begins_behind constants code all zero ds es is h = subst (EachBegins constants code all) is h
begins_behind constants code all (suc n) [] es is h = absurd is
begins_behind constants code all (suc n) (d ∷ ds) es is h = begins_behind constants code all n ds es is.1 h.1

-- ---- where they stand

-- a parameter takes nothing of the frame
pub place_behind :
    (parts : MemoryParts) (at n : ℕ) (ds es : List Y.DeclaredVariable) (i : ℕ) → IsBehind n ds es → at ≤ last_place →
    variable_place parts at ds (n + i) ≡ variable_place parts at es i
place_behind parts at zero ds es i is low =
    ap (λ us. variable_place parts at us (0 + i)) is ∙ ap (λ j. variable_place parts at es j) (omega arith)
place_behind parts at (suc n) [] es i is low = absurd is
place_behind parts at (suc n) (d ∷ ds) es i is low =
    let next : min last_place (at + frame_bytes parts d) ≡ at =
    ap (λ d'. min last_place (at + frame_bytes parts d')) (parameter_declared_is d is.0) ∙ omega (arith, low) in
    let j : suc n + i ≡ suc (n + i) = omega arith in
    ap (λ m. variable_place parts at (d ∷ ds) m) j
    ∙ ap (λ m. variable_place parts m ds (n + i)) next
    ∙ place_behind parts at n ds es i is.1 low

-- ---- what the program declares

pub those_behind :
    (n index : ℕ) (ds es : List Y.DeclaredVariable) (xs : List Declared) → IsBehind n ds es →
    AreThose (index + n) xs es → AreThose index xs ds
those_behind zero index ds es xs is h =
    let j : index + 0 ≡ index = omega arith in
    subst (λ m. AreThose m xs ds) j (subst (λ us. AreThose (index + 0) xs us) (sym is) h)
those_behind (suc n) index [] es xs is h = absurd is
those_behind (suc n) index (d ∷ ds) es [] is h =
    let j : index + suc n ≡ index + 1 + n = omega arith in (
      ap (λ (d' : Y.DeclaredVariable). is_automatic d'.class) (parameter_declared_is d is.0),
      those_behind n (index + 1) ds es [] is.1 (subst (λ m. AreThose m [] es) j h),
    )
those_behind (suc n) index (d ∷ ds) es (x ∷ xs) is h =
    let j : index + suc n ≡ index + 1 + n = omega arith in
    inr (
      ap (λ (d' : Y.DeclaredVariable). is_automatic d'.class) (parameter_declared_is d is.0),
      those_behind n (index + 1) ds es (x ∷ xs) is.1 (subst (λ m. AreThose m (x ∷ xs) es) j h),
    )

pub words_many :
    (e : Environment) (place index : ℕ) (ds : List Y.DeclaredVariable) →
    length (words_from e place index ds) ≡ length ds
words_many e place index [] = refl
words_many e place index (d ∷ ds) = ap suc (words_many e (place + variable_bytes d) (index + 1) ds)

-- ---- their code, and what it means

pub code_behind :
    (e : Environment) (line index n : ℕ) (ds es : List Y.DeclaredVariable) → IsBehind n ds es →
    variables_made e line index ds ≡ variables_made e line (index + n) es
code_behind e line index zero ds es is =
    let j : index ≡ index + 0 = omega arith in
    ap (λ us. variables_made e line index us) is ∙ ap (λ m. variables_made e line m es) j
code_behind e line index (suc n) [] es is = absurd is
code_behind e line index (suc n) (d ∷ ds) es is =
    let j : suc index + n ≡ index + suc n = omega arith in
    ap (λ d'. variables_made e line index (d' ∷ ds)) (parameter_declared_is d is.0)
    ∙ code_behind e line (suc index) n ds es is.1
    ∙ ap (λ m. variables_made e line m es) j

pub means_behind :
    (around : Around) (index n : ℕ) (ds es : List Y.DeclaredVariable) (acts : ℕ) (s : State) → IsBehind n ds es →
    K.variables_made around index ds acts s ≡ K.variables_made around (index + n) es acts s
unfolding K.variables_made K.automatic_made give ◌>>=◌ ◌>>◌
means_behind around index zero ds es acts s is =
    let j : index ≡ index + 0 = omega arith in
    ap (λ us. K.variables_made around index us acts s) is ∙ ap (λ m. K.variables_made around m es acts s) j
means_behind around index (suc n) [] es acts s is = absurd is
means_behind around index (suc n) (d ∷ ds) es acts s is =
    let j : index + 1 + n ≡ index + suc n = omega arith in
    ap (λ d'. K.variables_made around index (d' ∷ ds) acts s) (parameter_declared_is d is.0)
    ∙ means_behind around (index + 1) n ds es acts s is.1
    ∙ ap (λ m. K.variables_made around m es acts s) j

-- ---- which of them a parameter or a variable is

not_both : (d : Y.DeclaredVariable) → is_parameter d ≡ true → is_declared d ≡ true → ⊥
not_both d one other = cc (subst (λ d'. is_declared d' ≡ true) (parameter_declared_is d one) other)

some_same : {d e : Y.DeclaredVariable} → Some d ≡ Some e → d ≡ e
some_same h = cc h

no_parameter :
    (es : List Y.DeclaredVariable) (i : ℕ) → are_plain es ≡ true → is_parameter_if (slice_get es i) ≡ true → ⊥
no_parameter [] i plain h = cc h
no_parameter (d ∷ es) zero plain h = not_both d h (and_parts (is_declared d) (are_plain es) plain).0
no_parameter (d ∷ es) (suc i) plain h = no_parameter es i (and_parts (is_declared d) (are_plain es) plain).1 h

-- a parameter stands before them
pub parameter_before :
    (n : ℕ) (ds es : List Y.DeclaredVariable) (i : ℕ) → IsBehind n ds es → are_plain es ≡ true →
    is_parameter_if (slice_get ds i) ≡ true → i < n
parameter_before zero ds es i is plain h =
    absurd (no_parameter es i plain (subst (λ us. is_parameter_if (slice_get us i) ≡ true) is h))
parameter_before (suc n) [] es i is plain h = absurd is
parameter_before (suc n) (d ∷ ds) es zero is plain h = omega arith
parameter_before (suc n) (d ∷ ds) es (suc i) is plain h =
    let less = parameter_before n ds es i is.1 plain h in omega (arith, less)

parameter_same : {x z : Parameter} → Some x ≡ Some z → x ≡ z
parameter_same h = cc h

pub parameter_there :
    (e : Environment) (ds : List Y.DeclaredVariable) (ns : List ℕ) (j : ℕ) (x : Parameter) →
    are_parameters ds ns ≡ true → slice_get (parameters_at e ns) j ≡ Some x →
    is_parameter_if (slice_get ds x.index) ≡ true
parameter_there e ds [] j x h there = absurd (cc there)
parameter_there e ds (n ∷ ns) zero x h there =
    subst (λ (z : Parameter). is_parameter_if (slice_get ds z.index) ≡ true) (parameter_same there)
    (and_parts (is_parameter_if (slice_get ds n)) (are_parameters ds ns) h).0
parameter_there e ds (n ∷ ns) (suc j) x h there =
    parameter_there e ds ns j x (and_parts (is_parameter_if (slice_get ds n)) (are_parameters ds ns) h).1 there

-- and what is no parameter is one of them
pub record IsFound (n i : ℕ) (es : List Y.DeclaredVariable) (d : Y.DeclaredVariable) : Type 0 where
  pub place : ℕ
  pub at : i ≡ n + place
  pub there : slice_get es place ≡ Some d

pub found_behind :
    (n : ℕ) (ds es : List Y.DeclaredVariable) (i : ℕ) (d : Y.DeclaredVariable) → IsBehind n ds es →
    is_declared d ≡ true → slice_get ds i ≡ Some d → IsFound n i es d
found_behind zero ds es i d is declared there =
    record { place = i; at = omega arith; there = subst (λ us. slice_get us i ≡ Some d) is there }
found_behind (suc n) [] es i d is declared there = absurd is
found_behind (suc n) (d' ∷ ds) es zero d is declared there =
    absurd (not_both d (subst (λ u. is_parameter u ≡ true) (some_same there) is.0) declared)
found_behind (suc n) (d' ∷ ds) es (suc i) d is declared there =
    let f = found_behind n ds es i d is.1 declared there in
    let at = f.at in
    record { place = f.place; at = omega (arith, at); there = f.there }

pub word_inside :
    (es : List Y.DeclaredVariable) (i : ℕ) (d : Y.DeclaredVariable) → slice_get es i ≡ Some d → i < length es
word_inside [] i d there = absurd (cc there)
word_inside (e ∷ es) zero d there = omega arith
word_inside (e ∷ es) (suc i) d there = let less = word_inside es i d there in omega (arith, less)
