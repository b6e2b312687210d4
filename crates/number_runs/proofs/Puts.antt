-- PUT SKIP, and PUT EDIT of numbers and texts, do what they mean.
use Rattle.std.proofs.Common.{◌≡◌, ℕ, ◌+◌, ◌≤◌, List, [], ◌∷◌, ◌++◌, true, refl, arith, inl, None}
use Rattle.std.proofs.Common.{Some}
use Rattle.std.specs.Prelude.{◌<◌, ◌&&◌, ◌||◌, Bool, false, nat_le, nat_lt, not, Option}
use Rattle.std.proofs.lemmas.Bool.{and_parts, leb-true, ltb-true}
use Rattle.pli_language.specs.Formats.{is_times}
use Rattle.pli_language.specs.Tree as T
use Rattle.pli_typing.specs.TypedTree as Y
use Rattle.pli_meaning.specs.Control.{Label}
use Rattle.pli_serving.specs.ServiceState.{EditPlace}
use Rattle.pli_coding.specs.Allocating.{act_code}
use Rattle.pli_coding.specs.Assembly.{size_of}
use Rattle.pli_coding.specs.Registers.{held_registers}
use Rattle.pli_coding.specs.Statements.{stmt_code}
use Rattle.pli_coding.specs.StaticForms.{formats_datum}
use Rattle.pli_coding.specs.Streams as C
use Rattle.pli_coding.specs.Streams.{has_text}
use Rattle.run_steps.specs.DataNamed.{IsPlaced}
use Rattle.run_steps.specs.Items.{Linked}
use Rattle.run_steps.specs.Reach.{cost}
use Rattle.run_steps.proofs.Jumps.{back_of}
use Rattle.program_runs.specs.Statements.{Block, DoesWith, HasAct, IsBegun, set_aside, size_with}
use Rattle.condition_codes.specs.Codes.{HasCode}
use Rattle.expression_runs.specs.Values.{Setting}
use Rattle.expression_runs.specs.Assignments.{setting_around}
use Rattle.expression_runs.specs.Variables.{IsNumber, Spot}
use Rattle.expression_runs.proofs.Raises.{overflow_ends}
use Rattle.array_runs.specs.Arrays.{Grid, IsArray}
use Rattle.element_runs.proofs.Outside.{subscripts_end}
use Rattle.operator_runs.proofs.Divisors.{zero_divide_ends}
use Rattle.text_runs.proofs.Errors.{error_ends}
use Rattle.parameter_runs.specs.Around.{IsParameterAround}
use Rattle.edit_runs.specs.Edits.{IsSkipped, placing, within}
use Rattle.edit_runs.proofs.Items.{ArePut, Puts, setting_in}
use Rattle.edit_runs.proofs.NumberItems.{number_goes}
use Rattle.edit_runs.proofs.Places.{begun_placed, number_placed}
use Rattle.edit_runs.proofs.Puts.{AllGo, ItemGoes, ListGoes, ListsGo, lists_do, puts_of}
use Rattle.edit_runs.proofs.Skips.{skip_does}
use Rattle.edit_runs.proofs.TextItems.{text_goes}
use Rattle.text_values.proofs.Known.{constant_placed}
use Rattle.number_runs.specs.Knowledge.{IsUnraised, KnowsConstants, KnowsLists, KnowsNumbers, KnowsPuts, MayBeSet}
use Rattle.number_runs.specs.Knowledge.{KnowsPlaced, KnowsTexts}
use Rattle.number_runs.specs.Numbers.{Scope, grid_known, is_array_known, is_known, is_received}
use Rattle.scalar_runs.specs.Scalars.{IsScalar}
use Rattle.number_runs.specs.Numbers.{is_narrow_known, number_needs, type_known}
use Rattle.number_runs.specs.Numbers.{is_precision, is_text, text_needs}
use Rattle.number_runs.specs.Puts.{are_pairs, are_put_items, are_shown, is_list, is_put, is_put_item, is_put_list}
use Rattle.number_runs.specs.Puts.{is_shown, is_skip, put_item_needs, put_items_need, put_needs, without_calls}
use Rattle.number_runs.specs.Puts.{without_functions}
use Rattle.number_runs.proofs.Expressions.{more_registers, more_text, number_does, text_does}
use Rattle.number_runs.proofs.Formats.{list_is}
use Rattle.number_runs.proofs.Received.{parameter_placed}
use Rattle.number_runs.proofs.Unraised.{texts_end}

times_are : (n : ℕ) → is_times n ≡ true → (1 ≤ n) × (n ≤ 1000)
times_are n h =
    let a = and_parts (nat_le 1 n) (nat_le n 1000) h in
    (leb-true 1 n a.0, leb-true n 1000 a.1)

-- ---- data lists

-- a number, or a text, in any list
item_goes :
    (s : Scope) (u : Puts) (i : Y.PutItem) → ArePut u → is_put_item s i ≡ true → is_shown u.formats i ≡ true →
    put_item_needs i ≤ u.need →
    ((place : EditPlace) → KnowsNumbers (without_calls s) (within place (setting_in u))) →
    ((place : EditPlace) → KnowsNumbers (without_functions s) (within place (setting_in u))) → ItemGoes u i
item_goes s u (Y.PutValue (Y.NumberValue precision x)) a h shown fits texts knows =
    let room = a.registers in
    number_goes u a (omega (arith, fits, room)) (record { precision = precision; source = x })
    (λ some. precise (has_text u.formats) precision shown some)
    (λ place. more_registers (within place (setting_in u)) (number_needs x) u.need x (omega (arith, fits))
    (number_does (without_functions s) (within place (setting_in u)) x (knows place) h (λ may. absurd (cc may))))
  where
    precise :
        (q : Bool) (precision : ℕ) → (not q || is_precision precision) ≡ true → q ≡ true →
        (0 < precision) × (precision ≤ 31)
    precise true precision h some =
        let a = and_parts (nat_lt 0 precision) (nat_le precision 31) h in
        (ltb-true 0 precision a.0, leb-true precision 31 a.1)
    precise false precision h some = absurd (cc some)
item_goes s u (Y.PutValue (Y.TextValue x)) a h shown fits knows numbers =
    let b = and_parts s.texts (is_text (without_calls s) x) h in
    text_goes u a (λ some place. ((knows place).texts b.0).errors.number) x
    (λ place. more_text (within place (setting_in u)) (text_needs x) u.need x fits
    (text_does [] (without_calls s) (within place (setting_in u)) x (knows place)
    (refl, refl, λ level n is. absurd (cc is)) b.0 b.1))
item_goes s u (Y.PutValue (Y.BitValue x)) a h shown fits knows numbers = absurd (cc h)
item_goes s u (Y.PutValue (Y.PointerValue x)) a h shown fits knows numbers = absurd (cc h)
item_goes s u (Y.PutValue (Y.OffsetValue area x)) a h shown fits knows numbers = absurd (cc h)
item_goes s u (Y.PutValue Y.NullValue) a h shown fits knows numbers = absurd (cc h)
item_goes s u (Y.PutAggregate r) a h shown fits knows numbers = absurd (cc h)

items_go :
    (s : Scope) (u : Puts) (is : List Y.PutItem) → ArePut u → are_put_items s is ≡ true →
    are_shown u.formats is ≡ true → put_items_need is ≤ u.need →
    ((place : EditPlace) → KnowsNumbers (without_calls s) (within place (setting_in u))) →
    ((place : EditPlace) → KnowsNumbers (without_functions s) (within place (setting_in u))) → AllGo u is
items_go s u [] a h shown fits knows numbers = tt
items_go s u (i ∷ is) a h shown fits knows numbers =
    let b = and_parts (is_put_item s i) (are_put_items s is) h in
    let c = and_parts (is_shown u.formats i) (are_shown u.formats is) shown in (
      item_goes s u i a b.0 c.0 (omega (arith, fits)) knows numbers,
      items_go s u is a b.1 c.1 (omega (arith, fits)) knows numbers,
    )

texts_written : (s : Scope) (k : Setting) → KnowsTexts (without_calls s) k → KnowsTexts (without_functions s) k
texts_written s k h =
    record {
      constants = h.constants;
      errors = h.errors;
      waits = λ entries. let w = h.waits entries in record {
        overflow = w.overflow;
        divisor = w.divisor;
        subscript = w.subscript;
        errors = w.errors;
        functions = w.functions;
      };
    }

-- around numbers, which may be located
abbrev numbers_written :
    {s : Scope} → {k : Block} → {most : ℕ} → KnowsPuts s k most → (words : ℕ) → MayBeSet s words →
    (place : EditPlace) → (labels : List Label) → (line : ℕ) →
    KnowsNumbers (without_functions s) (within place (setting_around words k labels line most))
numbers_written {s} {k} {most} knows words may place labels line =
    let h = knows.numbers words may place labels line in
    record {
      begun = h.begun;
      overflow = h.overflow;
      divisor = h.divisor;
      subscript = h.subscript;
      variables = h.variables;
      arrays = h.arrays;
      narrows = h.narrows;
      parameters = h.parameters;
      codes = h.codes;
      functions = h.functions;
      texts = λ may'. texts_written s (within place (setting_around words k labels line most)) (h.texts may');
      given = λ may'. absurd (cc may');
      pointers = λ may' x known. (knows.located may').pointers place x known;
      located = λ may' p n m known declared.
          (knows.located may').reads words place labels line p n m known declared;
    }

-- where the statement stands, in a block of a scope, while so many words are set aside, and that one act pays for it
-- and for so much more
pub record HasPut (words : ℕ) (s : Scope) (k : Block) (skip : Option ℕ) (pairs : List Y.PutPair) (line index most : ℕ)
    : Type 0
  where
    pub act : HasAct k line
    pub may : MayBeSet s words
    pub registers : put_needs pairs ≤ k.registers
    pub held : k.registers ≤ held_registers
    pub statement :
        Linked k.call.surroundings.links k.call.code index
        (stmt_code k.environment (set_aside words) (Y.Put skip pairs line))
    pub paid : size_with words k (Y.Put skip pairs line) + most ≤ cost k.call.code
    pub knows : s.puts ≡ true → KnowsPuts s k most

-- ---- lists of them

list_goes :
    (words : ℕ) (s : Scope) (k : Block) (labels : List Label) (line need most : ℕ) (items : List Y.PutItem)
    (fs : T.Formats) → MayBeSet s words → KnowsPuts s k most → is_put_list s items ≡ true → is_list fs ≡ true →
    are_shown fs items ≡ true → put_items_need items ≤ need →
    IsPlaced (formats_datum fs) k.call.surroundings.links.data' →
    ListGoes words k labels line need most (record { items = items; formats = fs })
list_goes words s k labels line need most [] fs may knows h list shown fits placed = absurd (cc h)
list_goes words s k labels line need most (i ∷ is) fs may knows h list shown fits placed =
    let l = list_is fs list in
    record {
      are = l.are;
      some = l.some;
      knows = knows.lists fs list placed;
      item = i;
      items = is;
      shown = refl;
      go = λ first more a.
          items_go s (puts_of words k labels fs line need most first more) (i ∷ is) a h shown fits
          (λ place. knows.numbers words may place labels line)
          (λ place. numbers_written knows words may place labels line);
    }

lists_go :
    (words : ℕ) (s : Scope) (k : Block) (labels : List Label) (line need most : ℕ) → MayBeSet s words →
    KnowsPuts s k most → (ps : List Y.PutPair) (i : ℕ) → are_pairs s ps ≡ true → put_needs ps ≤ need →
    Linked k.call.surroundings.links k.call.code i (C.put_pairs k.environment (set_aside words) ps) →
    ListsGo words k labels line need most ps
lists_go words s k labels line need most may knows [] i h fits l = tt
lists_go words s k labels line need most may knows (p ∷ ps) i h fits l =
    let by = is_list p.formats && are_shown p.formats p.items in
    let a = and_parts (is_put_list s p.items && by) (are_pairs s ps) h in
    let b = and_parts (is_put_list s p.items) by a.0 in
    let c = and_parts (is_list p.formats) (are_shown p.formats p.items) b.1 in
    let one = C.put_pair k.environment (set_aside words) p in (
      list_goes words s k labels line need most p.items p.formats may knows b.0 c.0 c.1 (omega (arith, fits))
          (l.named (formats_datum p.formats) (inl refl)),
      lists_go words s k labels line need most may knows ps (i + size_of one) a.1 (omega (arith, fits))
          (back_of one (C.put_pairs k.environment (set_aside words) ps) l),
    )

-- ---- the statement

pub skip_is : (skip : Option ℕ) → is_skip skip ≡ true → IsSkipped skip
skip_is None h = tt
skip_is (Some lines) h = times_are lines h

edit_does :
    (words : ℕ) (s : Scope) (k : Block) (labels : List Label) (skip : Option ℕ) (p : Y.PutPair) (ps : List Y.PutPair)
    (line index left' most : ℕ) → is_skip skip ≡ true → s.puts ≡ true → are_pairs s (p ∷ ps) ≡ true →
    HasPut words s k skip (p ∷ ps) line index most → DoesWith words k labels (Y.Put skip (p ∷ ps) line) index left'
edit_does words s k labels skip p ps line index left' most some puts are has =
    let knows = has.knows puts in
    let option = C.skip_option 1 skip in
    let lists = C.put_pairs k.environment (set_aside words) (p ∷ ps) in
    let l = back_of option lists (back_of (act_code line) (option ++ lists) has.statement) in
    lists_do words k labels skip p ps line index left' (put_needs (p ∷ ps)) most has.act (skip_is skip some)
    (lists_go words s k labels line (put_needs (p ∷ ps)) most has.may knows (p ∷ ps)
    (index + size_of (act_code line) + size_of option) are (omega arith) l)
    (has.registers, has.held) (λ place. knows.error words has.may place labels line) has.statement has.paid

pub put_statement_does :
    (words : ℕ) (s : Scope) (k : Block) (labels : List Label) (skip : Option ℕ) (pairs : List Y.PutPair)
    (line index left' most : ℕ) → is_put s skip pairs ≡ true → HasPut words s k skip pairs line index most →
    DoesWith words k labels (Y.Put skip pairs line) index left'
put_statement_does words s k labels None [] line index left' most h has = absurd (cc h)
put_statement_does words s k labels (Some lines) [] line index left' most h has =
    let a = times_are lines h in
    skip_does k labels lines line index left'
    (record { act = has.act; some = a.0; most = a.1; statement = has.statement })
put_statement_does words s k labels skip (p ∷ ps) line index left' most h has =
    let a = and_parts (is_skip skip) (s.puts && are_pairs s (p ∷ ps)) h in
    let b = and_parts s.puts (are_pairs s (p ∷ ps)) a.1 in
    edit_does words s k labels skip p ps line index left' most a.0 b.0 b.1 has

-- ---- what is known where no unit is in force

-- an array of a block is one within a place in a format list
array_placed :
    (k : Block) (place : EditPlace) (x : Spot) (g : Grid) → IsArray k x g → IsArray (placing place k) x g
array_placed k place x g is =
    let h = is.known in
    record {
      initial = is.initial;
      known = record {
        declared = h.declared;
        serial = h.serial;
        binding = h.binding;
        living = h.living;
        lives = h.lives;
        shape = h.shape;
        base = h.base;
        frame = h.frame;
        at = h.at;
        low = h.low;
        inside = h.inside;
      };
      type = is.type;
      bounds = is.bounds;
      some = is.some;
    }

pub narrow_placed :
    (k : Block) (place : EditPlace) (x : Spot) (t : Y.LeafType) → IsScalar k x t → IsScalar (placing place k) x t
narrow_placed k place x t is =
    let h = is.known in
    record {
      initial = is.initial;
      known = record {
        declared = h.declared;
        serial = h.serial;
        binding = h.binding;
        living = h.living;
        lives = h.lives;
        shape = h.shape;
        base = h.base;
        frame = h.frame;
        at = h.at;
        low = h.low;
        inside = h.inside;
      };
    }

unraised_placed : (k : Block) (place : EditPlace) (most : ℕ) → IsUnraised k most → IsUnraised (placing place k) most
unraised_placed k place most u =
    record {
      routines = u.routines;
      place = u.place;
      overflow = u.overflow;
      divisor = u.divisor;
      error = u.error;
      acts = u.acts;
      few = u.few;
    }

pub puts_known :
    (s : Scope) (k : Block) (most : ℕ) → IsBegun k → IsUnraised k most →
    ((x : Spot) → is_known s x ≡ true → IsNumber k x) →
    (s.elements ≡ true → (x : Spot) → is_array_known s x ≡ true → IsArray k x (grid_known s x)) →
    (s.narrows ≡ true → (x : Spot) → is_narrow_known s x ≡ true → IsScalar k x (type_known s x)) →
    ((x : Spot) → is_received s x ≡ true → IsParameterAround k x) → (s.codes ≡ true → HasCode k) →
    (s.texts ≡ true → KnowsConstants k) → KnowsLists k → (s.locates ≡ true → KnowsPlaced s k most) →
    KnowsPuts s k most
puts_known s k most b u variables arrays narrows parameters codes constants lists located =
    let few = u.few in
    record {
      numbers = λ words may place labels line.
          let h = within place (setting_around words k labels line most) in
          record {
            begun = begun_placed k place b;
            overflow = λ raises'. overflow_ends h (record {
              routines = u.routines;
              overflow = u.overflow;
              error = u.error;
              acts = u.acts;
              most = u.few;
            });
            divisor = λ raises'. zero_divide_ends h (record {
              routines = u.routines;
              divisor = u.divisor;
              error = u.error;
              acts = u.acts;
              most = u.few;
            });
            subscript = λ may. subscripts_end h (record {
              routines = u.routines;
              place = u.place;
              error = u.error;
              acts = u.acts;
              most = u.few;
            });
            variables = λ x is. number_placed k place x (variables x is);
            arrays = λ may x is. array_placed k place x (grid_known s x) (arrays may x is);
            narrows = λ may x is. narrow_placed k place x (type_known s x) (narrows may x is);
            parameters = λ x is. parameter_placed k place x (parameters x is);
            pointers = λ may. absurd (cc may);
            located = λ may. absurd (cc may);
            codes = codes;
            functions = λ level n is. absurd (cc is);
            texts = λ may.
                texts_end (without_calls s) h (unraised_placed k place most u)
                (λ bytes named. constant_placed k place bytes (constants may bytes named))
                (λ entries may level n is. absurd (cc is));
            given = λ may. absurd (cc may);
          };
      error = λ words may place labels line.
          error_ends (List ℕ) (within place (setting_around words k labels line most)) (record {
            routines = u.routines;
            raises = u.place;
            error = u.error;
            acts = u.acts;
            most = omega (arith, few);
          });
      lists = lists;
      located = located;
    }
