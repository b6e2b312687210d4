-- The main procedure where all variables are scalars: what its declarations come to in the code.
use Rattle.std.proofs.Common.{◌≡◌, ℕ, zero, suc, ◌+◌, ◌*◌, ◌^◌, ◌≤◌, List, [], ◌∷◌, ◌++◌, length, Some, None, Bool, true, false, refl, sym, ap, ◌∙◌, arith, min}
use Rattle.std.specs.Prelude.{slice_get, unwrap_or, flat_map, cond, ◌==◌, nat_le}
use Rattle.std.proofs.lemmas.Bool.{eq-eqb}
use Rattle.pli_typing.specs.Signatures.{rounded_up, Bounds, element_count}
use Rattle.pli_language.specs.Tree as T
use Rattle.pli_typing.specs.TypedTree as Y
use Rattle.pli_meaning.specs.DeclaredShapes.{variables_of_block, procedure_numbered}
use Rattle.pli_meaning.specs.StorageState.{State}
use Rattle.pli_meaning.specs.Making as K
use Rattle.pli_coding.specs.Frames.{parameters_in, fixed_size, first_variable, variable_place, automatic_place, last_place, frame_bytes}
use Rattle.pli_coding.specs.Environments.{Environment}
use Rattle.pli_coding.specs.Statements.{block_words, block_held}
use Rattle.pli_coding.specs.Procedures.{procedure_environment}
use Rattle.pli_coding.specs.Images.{environment_of, static_if, number_if, statics_of_block, statics_code}
use Rattle.pli_headline.specs.Headline.{parts}
use Rattle.pli_headline.specs.ProvedSoFar.{plain_variable, array_variable, IsPlain, ArePlain, AllPlain, Kind, declared_kind, types_of, IsProvedSoFar, AreBounds, IsScalar}
use Rattle.pli_headline.proofs.Scalars.{by_plain, kind_at}
use Rattle.pli_headline.proofs.VariablePlaces.{Sizes, room_of, room_front, frame_size, sizes_by, text_print, elements_size}
use Rattle.pli_headline.proofs.ArrayPlaces.{count_some}
use Rattle.pli_headline.proofs.ArrayMeant.{bounds_back}
use Rattle.pli_headline.proofs.ArrayFrames.{array_framed}

-- ---- the procedure

abbrev pub main_head : (block line : ℕ) → Y.BlockHead
main_head block line = record { kind = Y.ProcedureBlock; number = block; level = 0; line = line }

abbrev pub main_procedure : (block line : ℕ) → Y.Stmts → Y.Procedure
main_procedure block line body = record { block = Y.BlockOf (main_head block line) body; parameters = []; result = None }

-- the program's first procedure, before others
pub record IsAlone (program : Y.Program) (block line : ℕ) (body : Y.Stmts) : Type 0 where
  pub others : List Y.Procedure
  pub are : program.procedures ≡ main_procedure block line body ∷ others

pub head_is : (h : Y.BlockHead) → h.kind ≡ Y.ProcedureBlock → h.level ≡ 0 → h ≡ main_head h.number h.line
head_is h e f =
    ap (λ k. record { kind = k; number = h.number; level = h.level; line = h.line }) e
    ∙ ap (λ n. record { kind = Y.ProcedureBlock; number = h.number; level = n; line = h.line }) f

abbrev pub alone_of : (program : Y.Program) (is : IsProvedSoFar program) → IsAlone program is.head.number is.head.line is.body
alone_of program is =
    record {
      others = is.others;
      are =
          is.procedures
          ∙ ap (λ h. record { block = Y.BlockOf h is.body; parameters = []; result = None } ∷ is.others) (head_is is.head is.block.kind is.block.level);
    }

abbrev pub main_environment : Y.Program → (block : ℕ) → Environment
main_environment program block = procedure_environment (main_head block 0) (environment_of parts program)

abbrev pub main_words : Y.Program → (block : ℕ) → Y.Stmts → ℕ
main_words program block body = block_words (main_environment program block) block body

abbrev pub main_held : Y.Program → (block : ℕ) → Y.Stmts → ℕ
main_held program block body = block_held (main_environment program block) block body

-- ---- its variables, and where they stand

plain_append : (ds es : List Y.DeclaredVariable) → ArePlain ds → ArePlain es → ArePlain (ds ++ es)
plain_append [] es are more = more
plain_append (d ∷ ds) es are more = (are.0, plain_append ds es are.1 more)

pub all_plain : (dss : List (List Y.DeclaredVariable)) → AllPlain dss → ArePlain (flat_map (λ ds. ds) dss)
all_plain [] all = tt
all_plain (ds ∷ rest) all = plain_append ds (flat_map (λ es. es) rest) all.0 (all_plain rest all.1)

block_plain : (dss : List (List Y.DeclaredVariable)) (block : ℕ) → AllPlain dss → ArePlain (unwrap_or (slice_get dss block) [])
block_plain [] block all = tt
block_plain (ds ∷ rest) zero all = all.0
block_plain (ds ∷ rest) (suc block) all = block_plain rest block all.1

pub main_plain : (program : Y.Program) (block : ℕ) → AllPlain program.variables → ArePlain (variables_of_block program block)
main_plain program block all = block_plain program.variables block all

-- the kind of a plain variable
pub plain_kind : (d : Y.DeclaredVariable) (is : IsPlain d) → record { type = is.type; bounds = is.bounds } ≡ declared_kind d
plain_kind d is =
    ap (λ bs. record { type = is.type; bounds = bs }) (sym (bounds_back is.bounds)) ∙ sym (ap declared_kind is.is)

-- a plain variable of a kind
pub typed_plain : (d : Y.DeclaredVariable) (kind : Kind) (is : IsPlain d) → declared_kind d ≡ kind → d ≡ array_variable kind.type kind.bounds is.initial
typed_plain d kind is e = is.is ∙ ap (λ (k : Kind). array_variable k.type k.bounds is.initial) (plain_kind d is ∙ e)

pub declared_at : (ds : List Y.DeclaredVariable) (j : ℕ) {kind : Kind} → ArePlain ds → slice_get (types_of ds) j ≡ Some kind → (initial : List T.InitialItem) × (slice_get ds j ≡ Some (array_variable kind.type kind.bounds initial))
declared_at [] j are h = absurd (cc h)
declared_at (d ∷ ds) zero {kind} are h = let e : declared_kind d ≡ kind = cc h in (are.0.initial, ap Some (typed_plain d kind are.0 e))
declared_at (d ∷ ds) (suc j) are h = declared_at ds j are.1 h

-- what each takes
frame_by : (q : Bool) → 16 + rounded_up 16 (rounded_up 4 (cond q 2 4) * 1 + 0) ≡ 32
frame_by true = refl
frame_by false = refl

pub frame_fixed : (p : ℕ) (i : List T.InitialItem) → frame_bytes parts (plain_variable (Y.FixedLeaf p) i) ≡ 32
frame_fixed p i = frame_by (nat_le p 15)

pub frame_many : (type : Y.LeafType) (b : Bounds) (bs : List Bounds) (i : List T.InitialItem) → IsScalar type → AreBounds (b ∷ bs) → frame_bytes parts (array_variable type (b ∷ bs) i) ≡ frame_size (record { type = type; bounds = b ∷ bs })
frame_many type b bs i held are =
    array_framed parts type held (b ∷ bs) i ∙ sym (elements_size type held (element_count (b ∷ bs)) (count_some (b ∷ bs) are))

kind_many : (type : Y.LeafType) (bs : List Bounds) (i : List T.InitialItem) → record { type = type; bounds = bs } ≡ declared_kind (array_variable type bs i)
kind_many type bs i = ap (λ cs. record { type = type; bounds = cs }) (sym (bounds_back bs))

pub frame_plain : (d : Y.DeclaredVariable) → IsPlain d → frame_bytes parts d ≡ frame_size (declared_kind d)
frame_plain d is =
    by_plain (λ u. frame_bytes parts u ≡ frame_size (declared_kind u)) frame_fixed (λ i. refl) (λ n i. text_print (suc n)) (λ n i. text_print (2 + suc n))
    (λ type b bs i element are. frame_many type b bs i element are ∙ ap frame_size (kind_many type (b ∷ bs) i)) d is

-- by the types of a block's variables
abbrev pub block_sizes : List Y.DeclaredVariable → Sizes
block_sizes ds = sizes_by (kind_at (types_of ds))

pub variable_place_plain : (at : ℕ) (ds : List Y.DeclaredVariable) (j : ℕ) → ArePlain ds → j ≤ length ds → at + room_of (block_sizes ds) j ≤ last_place → variable_place parts at ds j ≡ at + room_of (block_sizes ds) j
variable_place_plain at [] zero are h fits = omega arith
variable_place_plain at [] (suc j) are h fits = absurd (omega (arith, h))
variable_place_plain at (d ∷ ds) zero are h fits = omega arith
variable_place_plain at (d ∷ ds) (suc j) are h fits =
    let bytes = frame_plain d are.0 in
    let size = frame_size (declared_kind d) in
    let front : room_of (block_sizes (d ∷ ds)) (suc j) ≡ size + room_of (block_sizes ds) j = room_front (kind_at (types_of (d ∷ ds))) j in
    let next' : min last_place (at + frame_bytes parts d) ≡ at + size = omega (arith, fits, bytes, front) in
    ap (λ n. variable_place parts n ds j) next'
    ∙ variable_place_plain (at + size) ds j are.1 (omega (arith, h)) (omega (arith, fits, front))
    ∙ omega (arith, front)

main_first : (program : Y.Program) (block line : ℕ) (body : Y.Stmts) → IsAlone program block line body → first_variable program block 0 ≡ 144
main_first program block line body alone =
    by_procedures program.procedures alone.are (eq-eqb block block refl)
  where
    by_procedures : (ps : List Y.Procedure) → ps ≡ main_procedure block line body ∷ alone.others → (block == block) ≡ true → first_variable (record { variables = program.variables; procedures = ps }) block 0 ≡ 144
    by_procedures ps e t =
        ap (λ u. first_variable (record { variables = program.variables; procedures = u }) block 0) e
        ∙ ap (λ u. fixed_size 0 (length (parameters_in (cond u (Some (main_procedure block line body)) (procedure_numbered block alone.others))))) t

abbrev pub main_sizes : Y.Program → (block : ℕ) → Sizes
main_sizes program block = block_sizes (variables_of_block program block)

-- the name of the jth variable, from the frame
pub main_place : (program : Y.Program) (block line : ℕ) (body : Y.Stmts) (j : ℕ) → AllPlain program.variables → IsAlone program block line body → j ≤ length (variables_of_block program block) → room_of (main_sizes program block) j ≤ 2 ^ 20 → automatic_place parts program block 0 j ≡ 144 + room_of (main_sizes program block) j
main_place program block line body j all alone h few =
    ap (λ n. variable_place parts n (variables_of_block program block) j) (main_first program block line body alone)
    ∙ variable_place_plain 144 (variables_of_block program block) j (main_plain program block all) h (omega (arith, few))

-- ---- no STATIC variables

static_of_plain : (e : Environment) (block index : ℕ) (ds : List Y.DeclaredVariable) → ArePlain ds → statics_of_block e block index ds ≡ []
static_of_plain e block index [] are = refl
static_of_plain e block index (d ∷ ds) are =
    ap (λ u. static_if e block index u u.class ++ (number_if e block index u ++ statics_of_block e block (suc index) ds)) are.0.is
    ∙ static_of_plain e block (suc index) ds are.1

pub no_statics : (e : Environment) (block : ℕ) (dss : List (List Y.DeclaredVariable)) → AllPlain dss → statics_code e block dss ≡ []
no_statics e block [] all = refl
no_statics e block (ds ∷ rest) all =
    ap (λ u. u ++ statics_code e (suc block) rest) (static_of_plain e block 0 ds all.0) ∙ no_statics e (suc block) rest all.1

statics_of_plain : (block variable : ℕ) (ds : List Y.DeclaredVariable) (s : State) → ArePlain ds → K.statics_of_block block variable ds s ≡ s
statics_of_plain block variable [] s are = refl
statics_of_plain block variable (d ∷ ds) s are =
    ap (λ u. K.statics_of_block block (variable + 1) ds (K.static_made block variable u u.class s)) are.0.is
    ∙ statics_of_plain block (variable + 1) ds s are.1

pub statics_meant : (block : ℕ) (dss : List (List Y.DeclaredVariable)) (s : State) → AllPlain dss → K.statics_from block dss s ≡ s
statics_meant block [] s all = refl
statics_meant block (ds ∷ rest) s all =
    ap (λ u. K.statics_from (block + 1) rest u) (statics_of_plain block 0 ds s all.0) ∙ statics_meant (block + 1) rest s all.1
