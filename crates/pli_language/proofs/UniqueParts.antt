-- The parts of heads are spelled one way, and come to the same marks.
use Rattle.std.proofs.Common.{◌≡◌, ℕ, List, [], ◌∷◌, Option, Some, None, Bool, true, false, refl, sym, ap}
use Rattle.pli_language.specs.declared.condition.Condition.{Condition}
use Rattle.pli_language.specs.declared.token.Word.{Word}
use Rattle.pli_language.specs.declared.token.Word.TheVariants as W
use Rattle.pli_language.specs.declared.token.Kind.{Kind}
use Rattle.pli_language.specs.declared.token.Kind.TheVariants as K
use Rattle.pli_language.specs.declared.token.Token.{Token}
use Rattle.pli_language.specs.Tree as T
use Rattle.pli_language.specs.Spells.{Takes, next_kind, name_at, place_of}
use Rattle.pli_language.specs.Formats.{Direction}
use Rattle.pli_language.specs.Marks.{Marks, expr_marks, reference_marks}
use Rattle.pli_language.specs.Heads as G
use Rattle.pli_language.specs.Heads.{plain_condition, ends_range, ends_allocation, marks_if, SpellsCondition, SpellsNames, SpellsParameters, SpellsOption, SpellsOptions, SpellsRange, SpellsInParentheses, SpellsWhile, SpellsCounting, SpellsInto, SpellsPlacing, SpellsAllocation, SpellsAllocations, SpellsFreeing, SpellsFreeings, SpellsStreamOptions, SpellsEdit, SpellsReturn}
use Rattle.pli_language.proofs.Unique.{Same, same_take, next_taken, stops_here, name_same, at_same, reference_same}
use Rattle.pli_language.proofs.UniqueAttributes.{attributes_same}
use Rattle.pli_language.proofs.UniqueFormats.{number_or_one_same, pairs_same}

-- two readings give one value, end at one place and come to the same marks
pub record SameMarked {X : Type 0} (x y : X) (r r' : List Token) (m m' : Marks) : Type 0 where
  pub value : x ≡ y
  pub rest : r ≡ r'
  pub marks : m ≡ m'

-- ---- conditions, names and options

pub condition_same : {ts ts' r r' : List Token} {c c' : Condition} → ts ≡ ts' → SpellsCondition ts c r → SpellsCondition ts' c' r' → Same c c' r r'
condition_same k (G.plain ts rest t word c take is) (G.plain ts' rest' t' word' c' take' is') =
    let a = same_take k take take' in
    let w : word ≡ word' = cc (a.kind) in
    let value : c ≡ c' = cc (ap plain_condition w, is, is') in
    record { value = value; rest = a.rest }
condition_same k (G.plain ts rest t word c take is) (G.endfile ts' after mid behind rest' t' u v w take' o file' close) =
    let e : word ≡ W.Endfile = cc ((same_take k take take').kind) in
    absurd (cc (ap plain_condition e, is))
condition_same k (G.endfile ts after mid behind rest t u v w take o file' close) (G.plain ts' rest' t' word c take' is) =
    let e : word ≡ W.Endfile = cc ((same_take k take take').kind) in
    absurd (cc (ap plain_condition e, is))
condition_same k (G.endfile ts after mid behind rest t u v w a b c d) (G.endfile ts' after' mid' behind' rest' t' u' v' w' a' b' c' d') =
    let e = same_take k a a' in
    let f = same_take e.rest b b' in
    let g = same_take f.rest c c' in
    record { value = refl; rest = (same_take g.rest d d').rest }

pub names_same : {s : List ℕ} {ts ts' r r' : List Token} {x x' : List T.Name} → ts ≡ ts' → SpellsNames s ts x r → SpellsNames s ts' x' r' → Same x x' r r'
names_same {s} k (G.one_name ts rest t word take stop) (G.one_name ts' rest' t' word' take' stop') =
    let f = name_same s k take take' in
    record { value = ap (λ u. u ∷ []) f.value; rest = f.rest }
names_same k (G.one_name ts rest t word take stop) (G.further_names ts' mid after rest' t' u word' ns take' comma behind) = absurd (stops_here (same_take k take take').rest stop comma)
names_same k (G.further_names ts mid after rest t u word ns take comma behind) (G.one_name ts' rest' t' word' take' stop) = absurd (stops_here (sym (same_take k take take').rest) stop comma)
names_same {s} k (G.further_names ts mid after rest t u word ns take comma behind) (G.further_names ts' mid' after' rest' t' u' word' ns' take' comma' behind') =
    let f = name_same s k take take' in
    let c = same_take f.rest comma comma' in
    let g = names_same c.rest behind behind' in
    let value : name_at s t word ∷ ns ≡ name_at s t' word' ∷ ns' = cc (f.value, g.value) in
    record { value = value; rest = g.rest }

pub parameters_same : {s : List ℕ} {ts ts' r r' : List Token} {x x' : List T.Name} → ts ≡ ts' → SpellsParameters s ts x r → SpellsParameters s ts' x' r' → Same x x' r r'
parameters_same k (G.no_parameter ts stop) (G.no_parameter ts' stop') = record { value = refl; rest = k }
parameters_same k (G.no_parameter ts stop) (G.parameters ts' after mid rest t u ns o of c) = absurd (stops_here k stop o)
parameters_same k (G.parameters ts after mid rest t u ns o of c) (G.no_parameter ts' stop) = absurd (stops_here (sym k) stop o)
parameters_same k (G.parameters ts after mid rest t u ns o of c) (G.parameters ts' after' mid' rest' t' u' ns' o' of' c') =
    let a = same_take k o o' in
    let f = names_same a.rest of of' in
    let d = same_take f.rest c c' in
    record { value = f.value; rest = d.rest }

-- what an option begins with
unfoldable pub option_word : {s : List ℕ} {ts r : List Token} {o : T.ProcedureOption} → SpellsOption s ts o r → Word
option_word (G.main ts after mid behind rest t u v w a b c d) = W.Options
option_word (G.recursive ts rest t take) = W.Recursive
option_word (G.returns ts after mid behind rest t u v a others take o of c) = W.Returns

pub option_begins : {s : List ℕ} {ts r : List Token} {o : T.ProcedureOption} → (d : SpellsOption s ts o r) → next_kind ts ≡ Some (K.Name (option_word d))
unfolding option_word
option_begins (G.main ts after mid behind rest t u v w a b c d) = next_taken a
option_begins (G.recursive ts rest t take) = next_taken take
option_begins (G.returns ts after mid behind rest t u v a others take o of c) = next_taken take

option_words : {s : List ℕ} {ts ts' r r' : List Token} {o o' : T.ProcedureOption} → ts ≡ ts' → (d : SpellsOption s ts o r) → (d' : SpellsOption s ts' o' r') → option_word d ≡ option_word d'
option_words k d d' = cc (ap next_kind k, option_begins d, option_begins d')

pub option_same : {s : List ℕ} {ts ts' r r' : List Token} {o o' : T.ProcedureOption} → ts ≡ ts' → SpellsOption s ts o r → SpellsOption s ts' o' r' → Same o o' r r'
unfolding option_word
option_same k (G.main ts after mid behind rest t u v w a b c d) (G.main ts' after' mid' behind' rest' t' u' v' w' a' b' c' d') =
    let e = same_take k a a' in
    let f = same_take e.rest b b' in
    let g = same_take f.rest c c' in
    record { value = refl; rest = (same_take g.rest d d').rest }
option_same k (G.recursive ts rest t take) (G.recursive ts' rest' t' take') = record { value = refl; rest = (same_take k take take').rest }
option_same k (G.returns ts after mid behind rest t u v a others take o of c) (G.returns ts' after' mid' behind' rest' t' u' v' a' others' take' o' of' c') =
    let d = same_take (same_take k take take').rest o o' in
    let f = attributes_same d.rest of of' in
    let e = same_take f.rest c c' in
    record { value = ap T.Returns f.value; rest = e.rest }
option_same k d d' = absurd (cc (option_words k d d'))

pub options_same : {s : List ℕ} {ts ts' r r' : List Token} {x x' : List T.ProcedureOption} → ts ≡ ts' → SpellsOptions s ts x r → SpellsOptions s ts' x' r' → Same x x' r r'
options_same k (G.no_option ts stop) (G.no_option ts' stop') = record { value = refl; rest = k }
options_same k (G.no_option ts stop) (G.option ts' mid rest o others first behind) = absurd (cc (ap next_kind k, stop, option_begins first))
options_same k (G.option ts mid rest o others first behind) (G.no_option ts' stop) = absurd (cc (ap next_kind k, stop, option_begins first))
options_same k (G.option ts mid rest o others first behind) (G.option ts' mid' rest' o' others' first' behind') =
    let f = option_same k first first' in
    let g = options_same f.rest behind behind' in
    let value : o ∷ others ≡ o' ∷ others' = cc (f.value, g.value) in
    record { value = value; rest = g.rest }

-- ---- groups

range_of : Option T.Expr → Option T.Expr → G.Range
range_of limit step = record { limit = limit; step = step }

-- another token stands here than those that go on
goes_on : (ends : Option Kind → Bool) → {ts ts' r : List Token} {t : Token} {k : Kind} → ts ≡ ts' → ends (next_kind ts) ≡ true → Takes ts' k t r → ends (Some k) ≡ false → ⊥
goes_on ends e stop take never = cc (ap (λ u. ends (next_kind u)) e, stop, ap ends (next_taken take), never)

pub range_same : {s : List ℕ} {b b' x x' : G.Range} {ts ts' r r' : List Token} {m m' n n' : Marks} → b ≡ b' → ts ≡ ts' → m ≡ m' → SpellsRange s b ts m x r n → SpellsRange s b' ts' m' x' r' n' → SameMarked x x' r r' n n'
unfolding range_of
range_same b k h (G.range_ends before ts m stop) (G.range_ends before' ts' m' stop') = record { value = b; rest = k; marks = h }
range_same b k h (G.range_ends before ts m stop) (G.to step' x' ts' after' mid' rest' m' n' t' e' take' of' behind') = absurd (goes_on ends_range k stop take' refl)
range_same b k h (G.range_ends before ts m stop) (G.by limit' x' ts' after' mid' rest' m' n' t' e' take' of' behind') = absurd (goes_on ends_range k stop take' refl)
range_same b k h (G.to step x ts after mid rest m n t e take of behind) (G.range_ends before' ts' m' stop') = absurd (goes_on ends_range (sym k) stop' take refl)
range_same b k h (G.to step x ts after mid rest m n t e take of behind) (G.to step' x' ts' after' mid' rest' m' n' t' e' take' of' behind') =
    let a = same_take k take take' in
    let f = at_same refl a.rest of of' in
    let kept : step ≡ step' = ap (λ u. u.step) b in
    let before : range_of (Some e) step ≡ range_of (Some e') step' = cc (f.value, kept) in
    let marks : expr_marks e m ≡ expr_marks e' m' = cc (f.value, h) in
    range_same before f.rest marks behind behind'
range_same b k h (G.to step x ts after mid rest m n t e take of behind) (G.by limit' x' ts' after' mid' rest' m' n' t' e' take' of' behind') = absurd (cc ((same_take k take take').kind))
range_same b k h (G.by limit x ts after mid rest m n t e take of behind) (G.range_ends before' ts' m' stop') = absurd (goes_on ends_range (sym k) stop' take refl)
range_same b k h (G.by limit x ts after mid rest m n t e take of behind) (G.to step' x' ts' after' mid' rest' m' n' t' e' take' of' behind') = absurd (cc ((same_take k take take').kind))
range_same b k h (G.by limit x ts after mid rest m n t e take of behind) (G.by limit' x' ts' after' mid' rest' m' n' t' e' take' of' behind') =
    let a = same_take k take take' in
    let f = at_same refl a.rest of of' in
    let kept : limit ≡ limit' = ap (λ u. u.limit) b in
    let before : range_of limit (Some e) ≡ range_of limit' (Some e') = cc (f.value, kept) in
    let marks : expr_marks e m ≡ expr_marks e' m' = cc (f.value, h) in
    range_same before f.rest marks behind behind'

pub in_parentheses_same : {s : List ℕ} {ts ts' r r' : List Token} {e e' : T.Expr} → ts ≡ ts' → SpellsInParentheses s ts e r → SpellsInParentheses s ts' e' r' → Same e e' r r'
in_parentheses_same k (G.in_parentheses ts after mid rest t u e o of c) (G.in_parentheses ts' after' mid' rest' t' u' e' o' of' c') =
    let a = same_take k o o' in
    let f = at_same refl a.rest of of' in
    record { value = f.value; rest = (same_take f.rest c c').rest }

pub while_same : {s : List ℕ} {ts ts' r r' : List Token} {e e' : Option T.Expr} → ts ≡ ts' → SpellsWhile s ts e r → SpellsWhile s ts' e' r' → Same e e' r r'
while_same k (G.no_while ts stop) (G.no_while ts' stop') = record { value = refl; rest = k }
while_same k (G.no_while ts stop) (G.while ts' after rest t e take of) = absurd (stops_here k stop take)
while_same k (G.while ts after rest t e take of) (G.no_while ts' stop) = absurd (stops_here (sym k) stop take)
while_same k (G.while ts after rest t e take of) (G.while ts' after' rest' t' e' take' of') =
    let f = in_parentheses_same (same_take k take take').rest of of' in
    record { value = ap Some f.value; rest = f.rest }

counting_of : T.Reference → T.Expr → G.Range → Option T.Expr → T.Counting
counting_of v e r w = record { variable = v; start = e; limit = r.limit; step = r.step; condition = w }

pub counting_same : {s : List ℕ} {ts ts' r r' : List Token} {m m' n n' : Marks} {c c' : T.Counting} → ts ≡ ts' → m ≡ m' → SpellsCounting s ts m c r n → SpellsCounting s ts' m' c' r' n' → SameMarked c c' r r' n n'
unfolding counting_of
counting_same k h (G.counting ts mid after behind at rest m n t v e r w target equal of range condition) (G.counting ts' mid' after' behind' at' rest' m' n' t' v' e' r' w' target' equal' of' range' condition') =
    let a = reference_same k target target' in
    let b = same_take a.rest equal equal' in
    let f = at_same refl b.rest of of' in
    let before : expr_marks e (reference_marks v m) ≡ expr_marks e' (reference_marks v' m') = cc (a.value, f.value, h) in
    let g = range_same refl f.rest before range range' in
    let i = while_same g.rest condition condition' in
    let value : counting_of v e r w ≡ counting_of v' e' r' w' = cc (ap counting_of a.value, f.value, g.value, i.value) in
    let marks : marks_if expr_marks w n ≡ marks_if expr_marks w' n' = cc (ap (marks_if expr_marks) i.value, g.marks) in
    record { value = value; rest = i.rest; marks = marks }

-- ---- ALLOCATE and FREE

pub into_same : {s : List ℕ} {ts ts' r r' : List Token} {x x' : T.Reference} → ts ≡ ts' → SpellsInto s ts x r → SpellsInto s ts' x' r' → Same x x' r r'
into_same k (G.into ts after mid rest t u x o of c) (G.into ts' after' mid' rest' t' u' x' o' of' c') =
    let a = same_take k o o' in
    let f = reference_same a.rest of of' in
    record { value = f.value; rest = (same_take f.rest c c').rest }

allocation_of : T.Name → Option T.Reference → Option T.Reference → T.Allocation
allocation_of n area locator = record { variable = n; area = area; locator = locator }

pub placing_same : {s : List ℕ} {a a' b b' : T.Allocation} {ts ts' r r' : List Token} {m m' n n' : Marks} → a ≡ a' → ts ≡ ts' → m ≡ m' → SpellsPlacing s a ts m b r n → SpellsPlacing s a' ts' m' b' r' n' → SameMarked b b' r r' n n'
unfolding allocation_of
placing_same p k h (G.placing_ends a ts m stop) (G.placing_ends a' ts' m' stop') = record { value = p; rest = k; marks = h }
placing_same p k h (G.placing_ends a ts m stop) (G.in_area v' l' b' ts' after' mid' rest' m' n' t' x' take' of' behind') = absurd (goes_on ends_allocation k stop take' refl)
placing_same p k h (G.placing_ends a ts m stop) (G.set_locator v' l' b' ts' after' mid' rest' m' n' t' x' take' of' behind') = absurd (goes_on ends_allocation k stop take' refl)
placing_same p k h (G.in_area v l b ts after mid rest m n t x take of behind) (G.placing_ends a' ts' m' stop') = absurd (goes_on ends_allocation (sym k) stop' take refl)
placing_same p k h (G.in_area v l b ts after mid rest m n t x take of behind) (G.in_area v' l' b' ts' after' mid' rest' m' n' t' x' take' of' behind') =
    let d = same_take k take take' in
    let f = into_same d.rest of of' in
    let name : v ≡ v' = ap (λ u. u.variable) p in
    let kept : l ≡ l' = ap (λ u. u.locator) p in
    let before : allocation_of v (Some x) l ≡ allocation_of v' (Some x') l' = cc (name, f.value, kept) in
    let marks : reference_marks x m ≡ reference_marks x' m' = cc (f.value, h) in
    placing_same before f.rest marks behind behind'
placing_same p k h (G.in_area v l b ts after mid rest m n t x take of behind) (G.set_locator v' l' b' ts' after' mid' rest' m' n' t' x' take' of' behind') = absurd (cc ((same_take k take take').kind))
placing_same p k h (G.set_locator v l b ts after mid rest m n t x take of behind) (G.placing_ends a' ts' m' stop') = absurd (goes_on ends_allocation (sym k) stop' take refl)
placing_same p k h (G.set_locator v l b ts after mid rest m n t x take of behind) (G.in_area v' l' b' ts' after' mid' rest' m' n' t' x' take' of' behind') = absurd (cc ((same_take k take take').kind))
placing_same p k h (G.set_locator v l b ts after mid rest m n t x take of behind) (G.set_locator v' l' b' ts' after' mid' rest' m' n' t' x' take' of' behind') =
    let d = same_take k take take' in
    let f = into_same d.rest of of' in
    let name : v ≡ v' = ap (λ u. u.variable) p in
    let kept : l ≡ l' = ap (λ u. u.area) p in
    let before : allocation_of v l (Some x) ≡ allocation_of v' l' (Some x') = cc (name, f.value, kept) in
    let marks : reference_marks x m ≡ reference_marks x' m' = cc (f.value, h) in
    placing_same before f.rest marks behind behind'

pub allocation_same : {s : List ℕ} {ts ts' r r' : List Token} {m m' n n' : Marks} {a a' : T.Allocation} → ts ≡ ts' → m ≡ m' → SpellsAllocation s ts m a r n → SpellsAllocation s ts' m' a' r' n' → SameMarked a a' r r' n n'
allocation_same {s} k h (G.allocation ts mid rest m n t word a take of) (G.allocation ts' mid' rest' m' n' t' word' a' take' of') =
    let f = name_same s k take take' in
    placing_same (ap G.unplaced f.value) f.rest h of of'

pub allocations_same : {s : List ℕ} {ts ts' r r' : List Token} {m m' n n' : Marks} {x x' : List T.Allocation} → ts ≡ ts' → m ≡ m' → SpellsAllocations s ts m x r n → SpellsAllocations s ts' m' x' r' n' → SameMarked x x' r r' n n'
allocations_same k h (G.one_allocation ts rest m n a of stop) (G.one_allocation ts' rest' m' n' a' of' stop') =
    let f = allocation_same k h of of' in
    record { value = ap (λ u. u ∷ []) f.value; rest = f.rest; marks = f.marks }
allocations_same k h (G.one_allocation ts rest m n a of stop) (G.further_allocations ts' mid after rest' m' n' n'' t a' others of' comma behind) = absurd (stops_here (allocation_same k h of of').rest stop comma)
allocations_same k h (G.further_allocations ts mid after rest m n n'' t a others of comma behind) (G.one_allocation ts' rest' m' n' a' of' stop) = absurd (stops_here (sym (allocation_same k h of of').rest) stop comma)
allocations_same k h (G.further_allocations ts mid after rest m n o t a others of comma behind) (G.further_allocations ts' mid' after' rest' m' n' o' t' a' others' of' comma' behind') =
    let f = allocation_same k h of of' in
    let c = same_take f.rest comma comma' in
    let g = allocations_same c.rest f.marks behind behind' in
    let value : a ∷ others ≡ a' ∷ others' = cc (f.value, g.value) in
    record { value = value; rest = g.rest; marks = g.marks }

freeing_of : T.Reference → Option T.Reference → T.Freeing
freeing_of r a = record { generation = r; area = a }

pub freeing_same : {s : List ℕ} {ts ts' r r' : List Token} {x x' : T.Freeing} → ts ≡ ts' → SpellsFreeing s ts x r → SpellsFreeing s ts' x' r' → Same x x' r r'
unfolding freeing_of
freeing_same k (G.free ts rest x of stop) (G.free ts' rest' x' of' stop') =
    let f = reference_same k of of' in
    let value : freeing_of x None ≡ freeing_of x' None = cc (f.value) in
    record { value = value; rest = f.rest }
freeing_same k (G.free ts rest x of stop) (G.free_in ts' mid after rest' t x' a of' take area) = absurd (stops_here (reference_same k of of').rest stop take)
freeing_same k (G.free_in ts mid after rest t x a of take area) (G.free ts' rest' x' of' stop) = absurd (stops_here (sym (reference_same k of of').rest) stop take)
freeing_same k (G.free_in ts mid after rest t x a of take area) (G.free_in ts' mid' after' rest' t' x' a' of' take' area') =
    let f = reference_same k of of' in
    let b = same_take f.rest take take' in
    let g = into_same b.rest area area' in
    let value : freeing_of x (Some a) ≡ freeing_of x' (Some a') = cc (f.value, g.value) in
    record { value = value; rest = g.rest }

pub freeings_same : {s : List ℕ} {ts ts' r r' : List Token} {x x' : List T.Freeing} → ts ≡ ts' → SpellsFreeings s ts x r → SpellsFreeings s ts' x' r' → Same x x' r r'
freeings_same k (G.one_freeing ts rest x of stop) (G.one_freeing ts' rest' x' of' stop') =
    let f = freeing_same k of of' in
    record { value = ap (λ u. u ∷ []) f.value; rest = f.rest }
freeings_same k (G.one_freeing ts rest x of stop) (G.further_freeings ts' mid after rest' t x' xs of' comma behind) = absurd (stops_here (freeing_same k of of').rest stop comma)
freeings_same k (G.further_freeings ts mid after rest t x xs of comma behind) (G.one_freeing ts' rest' x' of' stop) = absurd (stops_here (sym (freeing_same k of of').rest) stop comma)
freeings_same k (G.further_freeings ts mid after rest t x xs of comma behind) (G.further_freeings ts' mid' after' rest' t' x' xs' of' comma' behind') =
    let f = freeing_same k of of' in
    let c = same_take f.rest comma comma' in
    let g = freeings_same c.rest behind behind' in
    let value : x ∷ xs ≡ x' ∷ xs' = cc (f.value, g.value) in
    record { value = value; rest = g.rest }

-- ---- GET, PUT and RETURN

skip_of : ℕ → Token → Option T.Skip
skip_of n t = Some (record { number = n; place = place_of t })

pub stream_options_same : {s : List ℕ} {d d' : Direction} {b b' : Bool} {x x' y y' : Option T.Skip} {ts ts' r r' : List Token} → x ≡ x' → ts ≡ ts' → SpellsStreamOptions s d b x ts y r → SpellsStreamOptions s d' b' x' ts' y' r' → Same y y' r r'
unfolding skip_of
stream_options_same x k (G.options_end b y ts no_file no_skip) (G.options_end b' y' ts' no_file' no_skip') = record { value = x; rest = k }
stream_options_same x k (G.options_end b y ts no_file no_skip) (G.file z' y' ts' after' mid' behind' at' rest' t' u' v' w' take' o' name' c' more') = absurd (stops_here k no_file take')
stream_options_same x k (G.options_end b y ts no_file no_skip) (G.skip b' y' ts' after' mid' rest' t' n' take' of' more') = absurd (stops_here k no_skip take')
stream_options_same x k (G.file z y ts after mid behind at rest t u v w take o name c more) (G.options_end b' y' ts' no_file' no_skip') = absurd (stops_here (sym k) no_file' take)
stream_options_same x k (G.file z y ts after mid behind at rest t u v w take o name c more) (G.file z' y' ts' after' mid' behind' at' rest' t' u' v' w' take' o' name' c' more') =
    let a = same_take k take take' in
    let e = same_take a.rest o o' in
    let f = same_take e.rest name name' in
    let g = same_take f.rest c c' in
    stream_options_same x g.rest more more'
stream_options_same x k (G.file z y ts after mid behind at rest t u v w take o name c more) (G.skip b' y' ts' after' mid' rest' t' n' take' of' more') = absurd (cc ((same_take k take take').kind))
stream_options_same x k (G.skip b y ts after mid rest t n take of more) (G.options_end b' y' ts' no_file' no_skip') = absurd (stops_here (sym k) no_skip' take)
stream_options_same x k (G.skip b y ts after mid rest t n take of more) (G.file z' y' ts' after' mid' behind' at' rest' t' u' v' w' take' o' name' c' more') = absurd (cc ((same_take k take take').kind))
stream_options_same x k (G.skip b y ts after mid rest t n take of more) (G.skip b' y' ts' after' mid' rest' t' n' take' of' more') =
    let a = same_take k take take' in
    let f = number_or_one_same a.rest of of' in
    let skip : skip_of n t ≡ skip_of n' t' = cc (f.value, a.token) in
    stream_options_same skip f.rest more more'

pub edit_same : {s : List ℕ} {ts ts' r r' : List Token} {x x' : List T.EditPair} → ts ≡ ts' → SpellsEdit s ts x r → SpellsEdit s ts' x' r' → Same x x' r r'
edit_same k (G.no_edit ts stop) (G.no_edit ts' stop') = record { value = refl; rest = k }
edit_same k (G.no_edit ts stop) (G.edit ts' after rest t ps take of) = absurd (stops_here k stop take)
edit_same k (G.edit ts after rest t ps take of) (G.no_edit ts' stop) = absurd (stops_here (sym k) stop take)
edit_same k (G.edit ts after rest t ps take of) (G.edit ts' after' rest' t' ps' take' of') = pairs_same (same_take k take take').rest of of'

pub return_same : {s : List ℕ} {ts ts' r r' : List Token} {x x' : Option T.Expr} → ts ≡ ts' → SpellsReturn s ts x r → SpellsReturn s ts' x' r' → Same x x' r r'
return_same k (G.no_value ts stop) (G.no_value ts' stop') = record { value = refl; rest = k }
return_same k (G.no_value ts stop) (G.value ts' rest e (G.in_parentheses ts'' after mid rest' t u e' o of c)) = absurd (stops_here k stop o)
return_same k (G.value ts rest e (G.in_parentheses ts'' after mid rest'' t u e' o of c)) (G.no_value ts' stop) = absurd (stops_here (sym k) stop o)
return_same k (G.value ts rest e of) (G.value ts' rest' e' of') =
    let f = in_parentheses_same k of of' in
    record { value = ap Some f.value; rest = f.rest }
