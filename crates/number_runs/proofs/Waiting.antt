-- What is known around expressions is known while texts wait.
use Rattle.std.proofs.Common.{◌≡◌, List, [], ◌++◌, sym, ap, ◌∙◌, subst, refl}
use Rattle.std.proofs.lemmas.List.{append_assoc}
use Rattle.pli_typing.specs.TypedTree as Y
use Rattle.pli_serving.specs.ServiceState.{Entry}
use Rattle.program_runs.specs.Statements.{Block, waiting, with_texts}
use Rattle.program_runs.proofs.Waiting.{begun_waits}
use Rattle.expression_runs.specs.Values.{Setting}
use Rattle.expression_runs.specs.Variables.{Spot}
use Rattle.parameter_runs.specs.Around.{IsParameterAround}
use Rattle.array_runs.specs.Arrays.{Grid, IsArray}
use Rattle.array_runs.proofs.Outer.{outer_array}
use Rattle.variable_runs.specs.Known.{IsKnown}
use Rattle.scalar_runs.specs.Scalars.{IsScalar}
use Rattle.text_runs.specs.Waiting.{over}
use Rattle.text_runs.proofs.Waiting.{number_waits}
use Rattle.text_values.proofs.Known.{constant_waits}
use Rattle.number_runs.specs.Knowledge.{KnowsNumbers, KnowsTexts, KnowsWaiting}
use Rattle.number_runs.specs.Numbers.{Scope, grid_known, type_known, without_given, IsBare, without_located}
use Rattle.std.proofs.lemmas.Bool.{and_parts}

pub known_waits :
    (k : Block) (entries : List Entry) (x : Spot) (d : Y.DeclaredVariable) → IsKnown k x d →
    IsKnown (waiting entries k) x d
known_waits k entries x d h =
    record {
      declared = h.declared;
      serial = h.serial;
      binding = h.binding;
      living = h.living;
      lives = h.lives;
      shape = h.shape;
      base = h.base;
      frame = h.frame;
      at = h.at;
      low = h.low;
      inside = h.inside;
    }

pub array_waits :
    (k : Block) (entries : List Entry) (x : Spot) (g : Grid) → IsArray k x g → IsArray (waiting entries k) x g
array_waits k entries x g is =
    outer_array k (waiting entries k) x g (λ d known. known_waits k entries x d known) is

pub narrow_waits :
    (k : Block) (entries : List Entry) (x : Spot) (t : Y.LeafType) → IsScalar k x t → IsScalar (waiting entries k) x t
narrow_waits k entries x t is = record { initial = is.initial; known = known_waits k entries x _ is.known }

pub parameter_waits :
    (k : Block) (entries : List Entry) (x : Spot) → IsParameterAround k x → IsParameterAround (waiting entries k) x
parameter_waits k entries x is =
    record {
      begun = begun_waits k entries is.begun;
      declared = is.declared;
      entry = is.entry;
      numbered_so = is.numbered_so;
      near = is.near;
      binding = is.binding;
      living = is.living;
      lives = is.lives;
      shape = is.shape;
      base = is.base;
      frame = is.frame;
      listed = is.listed;
      few = is.few;
      small = is.small;
      number = is.number;
      numbered = is.numbered;
      low = is.low;
      inside = is.inside;
    }

-- more of them are those together
over_twice : (more entries : List Entry) (k : Setting) → over (more ++ entries) k ≡ over more (over entries k)
over_twice more entries k =
    let b = k.block in
    ap (λ e.
    let z : Setting = record k { block = record b { first = with_texts e b.first }; labels = [] } in z)
    (append_assoc more entries b.first.control.entries)

pub texts_wait :
    {s : Scope} {k : Setting} (entries : List Entry) → KnowsTexts s k → KnowsTexts s (over entries k)
texts_wait {s} {k} entries h =
    record {
      constants = λ bytes placed. constant_waits k.block entries bytes (h.constants bytes placed);
      errors = (h.waits entries).errors;
      waits = λ more. subst (KnowsWaiting s) (over_twice more entries k) (h.waits (more ++ entries));
    }

pub numbers_wait :
    {s : Scope} {k : Setting} (entries : List Entry) → IsBare s → KnowsNumbers s k → KnowsTexts s k →
    KnowsNumbers s (over entries k)
numbers_wait {s} {k} entries none h t =
    let w = t.waits entries in
    record {
      begun = begun_waits k.block entries h.begun;
      overflow = w.overflow;
      divisor = w.divisor;
      subscript = w.subscript;
      variables = λ x is. number_waits k.block entries x (h.variables x is);
      arrays = λ may x is. array_waits k.block entries x (grid_known s x) (h.arrays may x is);
      narrows = λ may x is. narrow_waits k.block entries x (type_known s x) (h.narrows may x is);
      parameters = λ x is. parameter_waits k.block entries x (h.parameters x is);
      codes = h.codes;
      functions = λ level n is. w.functions (none.2 level n is) level n is;
      texts = λ may. texts_wait entries t;
      given = λ may. absurd (cc (sym none.0 ∙ (and_parts s.gives s.counts may).0));
      pointers = λ may. absurd (cc (sym none.1 ∙ may));
      located = λ may. absurd (cc (sym none.1 ∙ may));
    }

-- where calls have no arguments as much is known
pub bare : (s : Scope) → IsBare (without_given s)
bare s = (refl, refl, λ level n is. (and_parts s.waits (s.is_function level n) is).0)

pub waiting_without : {s : Scope} {k : Setting} → KnowsWaiting s k → KnowsWaiting (without_given s) k
waiting_without {s} h =
    record {
      overflow = h.overflow;
      divisor = h.divisor;
      subscript = h.subscript;
      errors = h.errors;
      functions = λ may level n is. h.functions may level n (and_parts s.waits (s.is_function level n) is).1;
    }

pub texts_without : {s : Scope} {k : Setting} → KnowsTexts s k → KnowsTexts (without_given s) k
texts_without h =
    record {
      constants = h.constants;
      errors = h.errors;
      waits = λ entries. waiting_without (h.waits entries);
    }

pub numbers_without : {s : Scope} {k : Setting} → KnowsNumbers s k → KnowsNumbers (without_given s) k
numbers_without {s} h =
    record {
      begun = h.begun;
      overflow = h.overflow;
      divisor = h.divisor;
      subscript = h.subscript;
      variables = h.variables;
      arrays = h.arrays;
      narrows = h.narrows;
      parameters = h.parameters;
      codes = h.codes;
      functions = λ level n is. h.functions level n (and_parts s.waits (s.is_function level n) is).1;
      texts = λ may. texts_without (h.texts may);
      given = λ may. absurd (cc may);
      pointers = λ may. absurd (cc may);
      located = λ may. absurd (cc may);
    }

-- and where nothing that is BASED is reached
pub waiting_unlocated : {s : Scope} {k : Setting} → KnowsWaiting s k → KnowsWaiting (without_located s) k
waiting_unlocated h =
    record {
      overflow = h.overflow;
      divisor = h.divisor;
      subscript = h.subscript;
      errors = h.errors;
      functions = h.functions;
    }
