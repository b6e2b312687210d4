-- What is generated for a source keeps the promise, and what is refused is no program.
use Rattle.std.proofs.Common.{◌≡◌, ◌≢◌, ◌⊎◌, ℕ, zero, suc, ◌≤◌, List, [], length, inl, inr, refl, sym, ap, subst, arith}
use Rattle.std.proofs.lemmas.List.{length-map}
use Rattle.std.specs.Prelude.{Contains}
use Rattle.pli_language.specs.declared.fault.SourceFault.{SourceFault}
use Rattle.pli_language.specs.declared.fault.SourceKind.{SourceKind}
use Rattle.pli_language.specs.declared.fault.SourceKind.TheVariants as K
use Rattle.pli_language.specs.declared.token.Token.{Token}
use Rattle.pli_language.specs.Tokens.{Tokens}
use Rattle.pli_language.specs.Tree as T
use Rattle.pli_language.specs.Parsing.{Spells, RefusesTokens}
use Rattle.pli_language.specs.Declaring.{declaring_faults}
use Rattle.pli_language.specs.Refusals.{IsLeast, want_of_memory}
use Rattle.pli_language.proofs.Least.{none_among}
use Rattle.pli_language.proofs.UniqueSource.{never_both, spelled_once}
use Rattle.pli_lex.proofs.Unique.{one_list, not_both}
use Rattle.pli_typing.specs.Resolving.{typing_faults, IsMistyped, Resolves, resolves}
use Rattle.pli_typing.specs.TypedTree as Y
use Rattle.pli_meaning.specs.Pictures.{step_cost}
use Rattle.pli_coding.specs.Images.{image_of, picture_of}
use Rattle.pli_coding.specs.SignatureTable.{table_of}
use Rattle.rv_meaning.specs.Encoding.{word_of}
use Rattle.rv_meaning.specs.Images as Images
use Rattle.rv_program.specs.Generated.{IsCodeOf}
use Rattle.well_formed_trees.specs.WellFormed.{AcceptedWellFormed, IsWellFormed}
use Rattle.pli_headline.specs.ProvedSoFar.{IsProvedSoFar}
use Rattle.pli_headline.specs.Headline.{parts, FitsMemory, Headline, HeadlineSoFar}
use Rattle.pli_headline.specs.FirstPathTrees.{IsFirstPath}
use Rattle.pli_headline.specs.FirstPath.{FirstPathProved, FirstPathSmall}
use Rattle.small_frames.specs.Small.{AcceptedSmall}
use Rattle.number_headlines.specs.Headlines.{NumberHeadlinesKept}
use Rattle.unit_numbers.specs.Headlines.{UnitNumberHeadlinesKept}
use Rattle.pli_compile.specs.Stacks.{most_fixed_bytes, most_routine_bytes, HasSmallFrames}
use Rattle.pli_compile.specs.Compiling.{most_words, most_step_cost, FirstPathShort, IsImageFor, IsParsed, IsProgramOf}
use Rattle.pli_compile.specs.Compiling.{IsProved}
use Rattle.pli_compile.specs.Compiling.{IsRefused, IsTreeCoded, out_of_memory, no_tokens, no_tree, bad_declarations}
use Rattle.pli_compile.specs.Compiling.{bad_types, RefusedNever}
use Rattle.pli_compile.proofs.Measures.{tree_weighs, lines_small, tokens_small}

-- ---- images

-- what a machine loads of a program's code fits its memory
fits : (program : Y.Program) (image : Images.Image) → IsCodeOf program image → Images.IsLoadable image → FitsMemory (picture_of parts program)
fits program image made loadable =
    let loaded : Images.IsLoadable (image_of parts program) = subst (λ i. Images.IsLoadable i) made.image_is loadable in
    let n = loaded.code_fits in
    let same = length-map (picture_of parts program).code word_of in
    record { code_fits = omega (arith, n, same); statics_fit = loaded.statics_fit }

-- a step of an image costs as its words do
costs : (program : Y.Program) (image : Images.Image) (tokens : ℕ) → IsCodeOf program image → length image.code ≤ most_words tokens → step_cost (picture_of parts program) ≤ most_step_cost tokens
costs program image tokens made short =
    let words : length (image_of parts program).code ≤ most_words tokens = subst (λ (i : Images.Image). length i.code ≤ most_words tokens) made.image_is short in
    let same = length-map (picture_of parts program).code word_of in
    omega (arith, words, same)

proved_of : {s : List ℕ} {ts : List Token} {tree : T.Tree} {program : Y.Program} → Tokens s ts → Spells s ts tree → Resolves tree program → FirstPathProved → IsFirstPath tree → IsProvedSoFar program
proved_of {tree = tree} read spelled (resolves kept) proved first = proved tree first (lines_small spelled (tokens_small read))

pub first_path_short : FirstPathSmall → FirstPathShort
first_path_short small s tokens tree program accepted (resolves kept) first =
    let lines = lines_small accepted.spelled (tokens_small accepted.read) in
    let words = small tree first lines in
    let weighs = tree_weighs accepted.spelled (tokens_small accepted.read) in
    omega (arith, words, weighs)

pub typed_faultless : {tree : T.Tree} {program : Y.Program} → Resolves tree program → typing_faults tree ≡ []
typed_faultless (resolves kept) = kept

-- the program of a source with this tree
abbrev pub program_known : {s : List ℕ} {count : ℕ} {tree : T.Tree} {program : Y.Program} → IsParsed s count tree → declaring_faults tree ≡ [] → Resolves tree program → IsProgramOf s program
program_known {tree = tree} parsed declares resolved =
    record {
      tokens = parsed.tokens;
      tree = tree;
      accepted = record { read = parsed.read; spelled = parsed.spelled; declares = declares; keeps_types = typed_faultless resolved };
      resolved = resolved;
    }

-- the frames of an accepted source's program are small
small_of :
    {s : List ℕ} {count : ℕ} {tree : T.Tree} {program : Y.Program} → AcceptedSmall → IsParsed s count tree →
    declaring_faults tree ≡ [] → Resolves tree program → HasSmallFrames program
small_of {s = s} {tree = tree} small parsed declares (resolves kept) =
    small most_fixed_bytes most_routine_bytes (omega arith) (omega arith) s parsed.tokens tree parsed.read
    parsed.spelled declares kept

-- and it is well formed
formed_of :
    {s : List ℕ} {count : ℕ} {tree : T.Tree} {program : Y.Program} → AcceptedWellFormed → IsParsed s count tree →
    declaring_faults tree ≡ [] → Resolves tree program → IsWellFormed program
formed_of {s = s} {tree = tree} formed parsed declares (resolves kept) =
    formed s parsed.tokens tree parsed.read parsed.spelled declares kept

-- what is known of all programs
pub record Laws : Type 0 where
  pub so_far : HeadlineSoFar
  pub numbers : NumberHeadlinesKept
  pub units : UnitNumberHeadlinesKept
  pub first_path : FirstPathProved
  pub small : AcceptedSmall
  pub well_formed : AcceptedWellFormed

kept_of :
    Laws → (program : Y.Program) → IsWellFormed program → FitsMemory (picture_of parts program) → IsProved program →
    Headline program (picture_of parts program) (table_of program)
kept_of laws program formed fit (inl forms) = laws.so_far program forms fit
kept_of laws program formed fit (inr (inl numbers)) =
    laws.numbers program (record { well_formed = formed; numbers = numbers }) fit
kept_of laws program formed fit (inr (inr units)) =
    laws.units program (record { well_formed = formed; units = units }) fit

-- the image of a source's tree, where it is short
pub compiled :
    {s : List ℕ} {count : ℕ} {tree : T.Tree} {coded image : Images.Image} → Laws → IsParsed s count tree →
    declaring_faults tree ≡ [] → IsTreeCoded tree coded → (image ≡ coded) × (length image.code ≤ most_words count) →
    IsImageFor s image
compiled {count = count} {coded = coded} {image = image} laws parsed declares made is =
    let code : IsCodeOf made.0 image = subst (λ (i : Images.Image). IsCodeOf made.0 i) (sym is.0) made.2 in
    let few = is.1 in
    let counted = parsed.counted in
    let short : length image.code ≤ most_words (length parsed.tokens) = omega (arith, few, counted) in
    record {
      program = made.0;
      source = program_known parsed declares made.1;
      coded = code;
      short = short;
      cheap = costs made.0 image (length parsed.tokens) code short;
      small = small_of laws.small parsed declares made.1;
      keeps =
          kept_of laws made.0 (formed_of laws.well_formed parsed declares made.1) (fits made.0 coded made.2 made.3);
      first_path = λ first. proved_of parsed.read parsed.spelled made.1 laws.first_path first;
    }

-- ---- refusals

memory_kind : (k : SourceKind) → (k ≡ K.Memory) ⊎ (k ≢ K.Memory)
memory_kind K.Memory = inl refl
memory_kind _ = inr (λ e. absurd (cc e))

zero_or_not : (n : ℕ) → (n ≡ 0) ⊎ (n ≢ 0)
zero_or_not zero = inl refl
zero_or_not (suc n) = inr (λ e. absurd (omega (arith, e)))

want_of : (line column : ℕ) (kind : SourceKind) → (line ≡ 0) ⊎ (line ≢ 0) → (column ≡ 0) ⊎ (column ≢ 0) → (kind ≡ K.Memory) ⊎ (kind ≢ K.Memory) → (◌≡◌ {A = SourceFault} (record { line = line; column = column; kind = kind }) want_of_memory) ⊎ (◌≢◌ {A = SourceFault} (record { line = line; column = column; kind = kind }) want_of_memory)
want_of line column kind (inl l) (inl c) (inl k) = inl (cc (l, c, k))
want_of line column kind (inr l) c k = inr (λ e. l (ap (λ (f : SourceFault). f.line) e))
want_of line column kind (inl l) (inr c) k = inr (λ e. c (ap (λ (f : SourceFault). f.column) e))
want_of line column kind (inl l) (inl c) (inr k) = inr (λ e. k (ap (λ (f : SourceFault). f.kind) e))

-- a refusal is want of memory, or it isn't
memory_or_not : (f : SourceFault) → (f ≡ want_of_memory) ⊎ (f ≢ want_of_memory)
memory_or_not f = want_of f.line f.column f.kind (zero_or_not f.line) (zero_or_not f.column) (memory_kind f.kind)

pub tree_refused : {s : List ℕ} {ts : List Token} {f : SourceFault} → Tokens s ts → (f ≢ want_of_memory → RefusesTokens s ts f) → IsRefused s f
tree_refused {s = s} {ts = ts} {f = f} read refused = by_memory (memory_or_not f)
  where
    by_memory : (f ≡ want_of_memory) ⊎ (f ≢ want_of_memory) → IsRefused s f
    by_memory (inl e) = out_of_memory e
    by_memory (inr n) = no_tree ts read (refused n)

pub declarations_refused : {s : List ℕ} {ts : List Token} {tree : T.Tree} {f : SourceFault} → Tokens s ts → Spells s ts tree → (f ≡ want_of_memory) ⊎ IsLeast (declaring_faults tree) f → IsRefused s f
declarations_refused read spelled (inl e) = out_of_memory e
declarations_refused {ts = ts} {tree = tree} read spelled (inr least) = bad_declarations ts tree read spelled least

pub types_refused : {s : List ℕ} {ts : List Token} {tree : T.Tree} {f : SourceFault} → Tokens s ts → Spells s ts tree → declaring_faults tree ≡ [] → (f ≡ want_of_memory) ⊎ IsMistyped tree f → IsRefused s f
types_refused read spelled declares (inl e) = out_of_memory e
types_refused {ts = ts} {tree = tree} read spelled declares (inr least) = bad_types ts tree read spelled declares least

-- what breaks nothing has no least breach
none_least : {fs : List SourceFault} {f : SourceFault} → IsLeast fs f → fs ≡ [] → ⊥
none_least {f = f} least e = none_among f (subst (λ gs. Contains gs f) e least.among)

pub refused_never : RefusedNever
refused_never s f (out_of_memory e) h tokens tree a = h e
refused_never s f (no_tokens refuses) h tokens tree a = not_both s tokens f.line f.column f.kind a.read refuses
refused_never s f (no_tree ts read refused) h tokens tree a =
    let e : ts ≡ tokens = one_list s ts tokens read a.read in
    never_both a.spelled (subst (λ u. RefusesTokens s u f) e refused)
refused_never s f (bad_declarations ts other read spelled least) h tokens tree a =
    let e : ts ≡ tokens = one_list s ts tokens read a.read in
    let t : tree ≡ other = spelled_once a.spelled (subst (λ u. Spells s u other) e spelled) in
    none_least least (subst (λ u. declaring_faults u ≡ []) t a.declares)
refused_never s f (bad_types ts other read spelled declares least) h tokens tree a =
    let e : ts ≡ tokens = one_list s ts tokens read a.read in
    let t : tree ≡ other = spelled_once a.spelled (subst (λ u. Spells s u other) e spelled) in
    none_least least (subst (λ u. typing_faults u ≡ []) t a.keeps_types)
