-- What is known around the expressions and the statements of such a block.
use Rattle.std.specs.Prelude.{ℕ, ◌+◌, ◌*◌, ◌^◌, ◌<◌, ◌≤◌, ◌≡◌, [], ◌∷◌, ◌++◌, Bool, false, true, List}
use Rattle.std.specs.Prelude.{◌⊎◌, length, Option, None}
use Rattle.std.specs.Prelude.{Some, ℤ}
use Rattle.pli_language.specs.declared.condition.Condition.{Condition}
use Rattle.pli_language.specs.declared.condition.Condition.TheVariants as C
use Rattle.pli_language.specs.Tree as T
use Rattle.pli_typing.specs.Signatures.{Fixed}
use Rattle.pli_typing.specs.TypedTree as Y
use Rattle.pli_coding.specs.Expressions.{argument_words}
use Rattle.pli_meaning.specs.Control.{Label, is_among}
use Rattle.pli_meaning.specs.Executing.{labels_in}
use Rattle.pli_meaning.specs.StorageState.{force}
use Rattle.pli_serving.specs.ServiceState.{EditPlace, Entry}
use Rattle.pli_coding.specs.Assembly.{ConstantBytes, RaiseError, ReturnPlace}
use Rattle.pli_coding.specs.Environments.{BlockOwner, block_around, none_taken}
use Rattle.pli_coding.specs.Frames.{result}
use Rattle.pli_coding.specs.Linking.{Links, place_of}
use Rattle.pli_coding.specs.Registers.{held_registers}
use Rattle.pli_coding.specs.Statements.{stmt_code, stmts_code}
use Rattle.pli_coding.specs.StaticForms.{formats_datum}
use Rattle.activation_relation.specs.FrameLaws.{with_waits}
use Rattle.activation_relation.specs.Landing.{is_begin}
use Rattle.activation_relation.specs.Layers.{Layer}
use Rattle.activation_relation.specs.ServiceLaws.{IsSystem}
use Rattle.run_steps.specs.DataNamed.{IsPlaced}
use Rattle.run_steps.specs.Engine.{most_code}
use Rattle.run_steps.specs.Items.{Linked}
use Rattle.program_runs.specs.Statements.{Block, Does, DoesWith, IsBegun, IsOwn, set_aside, waiting}
use Rattle.begin_runs.specs.ThroughReturns.{IsThrough, Through}
use Rattle.condition_codes.specs.Codes.{HasCode}
use Rattle.expression_runs.specs.Assignments.{setting_around}
use Rattle.expression_runs.specs.Laws as L
use Rattle.expression_runs.specs.Raises.{Routines}
use Rattle.expression_runs.specs.Values.{OverflowComes, Setting}
use Rattle.expression_runs.specs.Variables.{IsNumber, Spot}
use Rattle.operator_runs.specs.Divisors.{ZeroDivideComes}
use Rattle.text_runs.specs.Texts.{ErrorComes}
use Rattle.text_runs.specs.Waiting.{over}
use Rattle.text_values.specs.Variables.{KnowsText}
use Rattle.edit_runs.specs.Edits.{KnowsFormats, placing, within}
use Rattle.get_runs.specs.Gets.{EndfileComes}
use Rattle.program_places.specs.Laws.{IsLabel}
use Rattle.program_places.specs.Placed.{Placed}
use Rattle.counter_runs.specs.Words.{telling}
use Rattle.array_runs.specs.Arrays.{IsArray}
use Rattle.element_runs.specs.Subscripts.{SubscriptComes}
use Rattle.parameter_runs.specs.Around.{IsParameterAround}
use Rattle.list_calls.specs.Arguments.{EachGives, Way, arguments_of, setting_told}
use Rattle.list_calls.specs.ListKnown.{AreStored, IsStored}
use Rattle.list_calls.specs.Passed.{IsNamed}
use Rattle.area_runs.specs.Allocations.{allocation}
use Rattle.area_assignments.specs.Copying.{copying}
use Rattle.area_assignments.specs.Emptying.{emptying}
use Rattle.area_freeings.specs.Freeing.{freeing}
use Rattle.locator_runs.specs.Pointers.{IsPointer}
use Rattle.member_runs.specs.MemberAssignments as M
use Rattle.member_runs.specs.MemberPointers.{following, linking}
use Rattle.member_runs.specs.NullMembers.{nulling}
use Rattle.member_runs.specs.Members.{member_of}
use Rattle.scalar_runs.specs.Scalars.{IsScalar}
use Rattle.number_runs.specs.Numbers.{Scope, grid_known, is_array_known, is_known, is_narrow_known, is_received}
use Rattle.number_runs.specs.Based.{is_pointer_type, is_word_type}
use Rattle.number_runs.specs.Numbers.{gives_lists, type_known, is_area_known, is_based_known, is_pointer_known}
use Rattle.number_runs.specs.Numbers.{is_member_known, without_located, inside}
use Rattle.number_runs.specs.Puts.{without_calls, is_list}
use Rattle.number_runs.specs.Statements.{are_statements, begins_need, statements_need}

-- ---- around expressions

abbrev pub call_number : (level number : ℕ) → Y.Number
call_number level n = Y.NumberFrom (Y.Calling n level Y.NoArgument)

-- with a list of arguments
abbrev pub given_call : (level number : ℕ) → List Way → Y.Call
given_call level n ways = Y.Calling n level (arguments_of ways)

abbrev pub given_number : (level number : ℕ) → List Way → Y.Number
given_number level n ways = Y.NumberFrom (given_call level n ways)

-- nothing waits in the words from one on
abbrev pub IsFree : (waits : ℕ → Option ℕ) → (from : ℕ) → Type 0
IsFree waits from = (n : ℕ) → from ≤ n → waits n ≡ None

-- the most words that the frame of a block has for temporaries
abbrev pub most_set : ℕ
most_set = 2 ^ 16

-- each argument does what it means behind so many words that are set aside, whatever those before it come to
abbrev pub GiveBehind :
    Setting → (words need : ℕ) → (waits : ℕ → Option ℕ) → Layer → List Layer → List Way → Type 0
GiveBehind k words need waits φ φs ways =
    EachGives (setting_told k words waits φ φs) need (with_waits waits φ) φs words
    (words + argument_words * length ways) waits
    ways

-- a variable of a block may be passed by reference: its frame tells its name, and it is stored
pub record IsPassable (k : Block) (x : Spot) : Type 0 where
  pub serial : ℕ
  pub signature : ℕ
  pub named : IsNamed k x serial signature
  pub stored : IsStored k.first serial signature

-- an ERROR by a service's status comes to what it means
pub record KnowsErrors (k : Setting) : Type 0 where
  pub text : ErrorComes (List ℕ) k
  pub number : ErrorComes ℤ k
  pub bit : ErrorComes Bool k

-- what is known there is known while texts wait: raises and calls without arguments do what they mean, if there may be
-- any
pub record KnowsWaiting (s : Scope) (k : Setting) : Type 0 where
  pub overflow : s.overflows ≡ true → OverflowComes k
  pub divisor : s.divides ≡ true → ZeroDivideComes k
  pub subscript : s.elements ≡ true → SubscriptComes k
  pub errors : KnowsErrors k
  pub functions :
      s.waits ≡ true → (level n : ℕ) → s.is_function level n ≡ true → L.Does k 0 (call_number level n)

-- the bytes of each text constant that has a place are told there
abbrev pub KnowsConstants : Block → Type 0
KnowsConstants k =
    (bytes : List ℕ) → IsPlaced (ConstantBytes bytes) k.call.surroundings.links.data' → KnowsText k bytes

-- around texts
pub record KnowsTexts (s : Scope) (k : Setting) : Type 0 where
  pub constants : KnowsConstants k.block
  pub errors : KnowsErrors k
  pub waits : (entries : List Entry) → KnowsWaiting s (over entries k)

-- pointers are known, and members of what they lead to are read
pub record KnowsReached (s : Scope) (k : Setting) : Type 0 where
  pub pointers : (x : Spot) → is_pointer_known s x ≡ true → IsPointer k.block x
  pub reads :
      (p n : Spot) (m : ℕ) → is_pointer_known s p ≡ true → is_member_known s is_word_type n m ≡ true →
      L.Does k 0 (Y.NumberIn (member_of p n m))

-- around lists of arguments, which stand in words of the newest layer behind those that are set aside: raises and calls
-- do what they mean whatever waits in these words, and so does a call with a list if each of its arguments does; each
-- variable may be passed by reference, and what pointers lead to is reached
pub record KnowsGiven (s : Scope) (k : Setting) : Type 0 where
  pub layer : Layer
  pub others : List Layer
  pub newest : k.block.first.control.layers ≡ layer ∷ others
  pub few : layer.words ≤ most_set
  pub free : IsFree layer.waits k.words
  pub passable : (x : Spot) → is_known s x ≡ true → IsPassable k.block x
  pub overflow :
      s.overflows ≡ true → (words : ℕ) → words ≤ most_set → (waits : ℕ → Option ℕ) →
      OverflowComes (setting_told k words waits layer others)
  pub divisor :
      s.divides ≡ true → (words : ℕ) → words ≤ most_set → (waits : ℕ → Option ℕ) →
      ZeroDivideComes (setting_told k words waits layer others)
  pub subscript :
      s.elements ≡ true → (words : ℕ) → words ≤ most_set → (waits : ℕ → Option ℕ) →
      SubscriptComes (setting_told k words waits layer others)
  pub functions :
      (words : ℕ) → words ≤ most_set → (waits : ℕ → Option ℕ) (level n : ℕ) → s.is_function level n ≡ true →
      L.Does (setting_told k words waits layer others) 0 (call_number level n)
  pub texts :
      s.texts ≡ true → (words : ℕ) → words ≤ most_set → (waits : ℕ → Option ℕ) →
      KnowsTexts s (setting_told k words waits layer others)
  pub reached :
      s.locates ≡ true → (words : ℕ) → words ≤ most_set → (waits : ℕ → Option ℕ) →
      KnowsReached s (setting_told k words waits layer others)
  pub given :
      (words : ℕ) (waits : ℕ → Option ℕ) (level n need : ℕ) (ways : List Way) → 0 < length ways →
      AreStored k.block.first ways → IsFree waits words → words + argument_words * length ways ≤ layer.words →
      s.is_given_function (length ways) level n ≡ true →
      GiveBehind k words need waits layer others ways →
      L.Does (setting_told k words waits layer others) need (given_number level n ways)

-- raises come to what they mean where there may be any, each variable that may be named is a number of the block, or an
-- array of it, a scalar of fewer bits or a parameter, and calls of functions that may be called leave what they mean,
-- as does what pointers lead to
pub record KnowsNumbers (s : Scope) (k : Setting) : Type 0 where
  pub begun : IsBegun k.block
  pub overflow : s.overflows ≡ true → OverflowComes k
  pub divisor : s.divides ≡ true → ZeroDivideComes k
  pub subscript : s.elements ≡ true → SubscriptComes k
  pub variables : (x : Spot) → is_known s x ≡ true → IsNumber k.block x
  pub arrays : s.elements ≡ true → (x : Spot) → is_array_known s x ≡ true → IsArray k.block x (grid_known s x)
  pub narrows : s.narrows ≡ true → (x : Spot) → is_narrow_known s x ≡ true → IsScalar k.block x (type_known s x)
  pub parameters : (x : Spot) → is_received s x ≡ true → IsParameterAround k.block x
  pub functions : (level n : ℕ) → s.is_function level n ≡ true → L.Does k 0 (call_number level n)
  pub texts : s.texts ≡ true → KnowsTexts s k
  pub given : gives_lists s ≡ true → KnowsGiven s k
  pub pointers : s.locates ≡ true → (x : Spot) → is_pointer_known s x ≡ true → IsPointer k.block x
  pub located :
      s.locates ≡ true → (p n : Spot) (m : ℕ) → is_pointer_known s p ≡ true →
      is_member_known s is_word_type n m ≡ true → L.Does k 0 (Y.NumberIn (member_of p n m))
  pub codes : s.codes ≡ true → HasCode k.block

-- so many words are left for lists behind those that are set aside
abbrev pub HasLists : {s : Scope} → {k : Setting} → KnowsNumbers s k → (count : ℕ) → Type 0
HasLists {s} {k} h count = (g : gives_lists s ≡ true) → k.words + count ≤ (h.given g).layer.words

-- each list with data items that static data have is known
abbrev pub KnowsLists : Block → Type 0
KnowsLists k =
    (fs : T.Formats) → is_list fs ≡ true → IsPlaced (formats_datum fs) k.call.surroundings.links.data' →
    KnowsFormats k fs

-- ---- around statements

-- each of these labels stands at an index of the code
abbrev pub ArePlaced : Links → (block : ℕ) → List Label → Type 0
ArePlaced links block labels = (label : Label) → is_among label labels ≡ true → IsLabel links block label

-- where the code of a statement, and of a list of them, stands with its labels, while so many words are set aside
abbrev pub StandingWith : (words : ℕ) → Block → Y.Stmt → (index : ℕ) → Type 0
StandingWith words k stmt index =
    Placed k.call.surroundings.links k.call.code index (stmt_code k.environment (set_aside words) stmt)

abbrev pub AreStandingWith : (words : ℕ) → Block → Y.Stmts → (index : ℕ) → Type 0
AreStandingWith words k body index =
    Placed k.call.surroundings.links k.call.code index (stmts_code k.environment (set_aside words) body)

-- where none are
abbrev pub Standing : Block → Y.Stmt → (index : ℕ) → Type 0
Standing k stmt index = StandingWith 0 k stmt index

abbrev pub AreStanding : Block → Y.Stmts → (index : ℕ) → Type 0
AreStanding k body index = AreStandingWith 0 k body index

-- the block is a function's own, at whose end a RETURN goes on with a number
pub record IsValued (k : Block) (left' : ℕ) : Type 0 where
  pub owner :
      k.environment.owner
      ≡ BlockOwner (record { number = k.call.beginning.head.number; level = k.environment.level })
  pub end : place_of k.call.surroundings.links (ReturnPlace k.call.beginning.head.number) ≡ 4 * k.call.end
  pub near : k.call.end ≤ most_code
  pub enough : 2 ≤ left'
  pub function : k.call.function ≡ Some (record { place = result; kind = Fixed 31 })
  pub kind : is_begin k.call.beginning.layer.kind ≡ false
  pub saved : k.registers ≤ k.call.beginning.layer.saved

-- no unit is in force for the conditions that numbers raise
pub record IsUnraised (k : Block) (most : ℕ) : Type 0 where
  pub routines : Routines k.call.surroundings.links k.call.code
  pub place : place_of k.call.surroundings.links RaiseError ≡ 4 * (routines.at + 8)
  pub overflow : IsSystem (force k.first.state.activations C.FixedOverflow)
  pub divisor : IsSystem (force k.first.state.activations C.ZeroDivide)
  pub error : IsSystem (force k.first.state.activations C.Error)
  pub acts : k.call.surroundings.acts + 1 < 2 ^ 64
  -- an act pays for what ends the run
  pub few : 18 < most

-- each list in a block carries the labels of the block's own list, too
abbrev pub Includes : (own labels : List Label) → Type 0
Includes own labels = (label : Label) → is_among label own ≡ true → is_among label labels ≡ true

-- the lists around a statement have these labels
pub record AreAround (k : Block) (own labels : List Label) : Type 0 where
  pub at : ArePlaced k.call.surroundings.links k.environment.block labels
  pub includes : Includes own labels

abbrev pub call_statement : (level number line : ℕ) → Y.Stmt
call_statement level n line = Y.CallProcedure (Y.Calling n level Y.NoArgument) line

abbrev pub given_statement : (level number line : ℕ) → List Way → Y.Stmt
given_statement level n line ways = Y.CallProcedure (given_call level n ways) line

-- so many words may be set aside around a statement: none where no loop counts
abbrev pub MayBeSet : Scope → (words : ℕ) → Type 0
MayBeSet s words = (words ≤ most_set) × (s.counts ≡ false → words ≡ 0)

-- pointers are known while a place in a format list is in use, and members of what they lead to are read there
pub record KnowsPlaced (s : Scope) (k : Block) (most : ℕ) : Type 0 where
  pub pointers : (place : EditPlace) (x : Spot) → is_pointer_known s x ≡ true → IsPointer (placing place k) x
  pub reads :
      (words : ℕ) (place : EditPlace) (labels : List Label) (line : ℕ) (p n : Spot) (m : ℕ) →
      is_pointer_known s p ≡ true → is_member_known s is_word_type n m ≡ true →
      L.Does (within place (setting_around words k labels line most)) 0 (Y.NumberIn (member_of p n m))

-- around what is written as much is known while a place in a format list is in use, an ERROR there comes to what it
-- means, and the lists are known
pub record KnowsPuts (s : Scope) (k : Block) (most : ℕ) : Type 0 where
  pub numbers :
      (words : ℕ) → MayBeSet s words → (place : EditPlace) (labels : List Label) (line : ℕ) →
      KnowsNumbers (without_calls s) (within place (setting_around words k labels line most))
  pub error :
      (words : ℕ) → MayBeSet s words → (place : EditPlace) (labels : List Label) (line : ℕ) →
      ErrorComes (List ℕ) (within place (setting_around words k labels line most))
  pub lists : KnowsLists k
  pub located : s.locates ≡ true → KnowsPlaced s k most

-- around what is read, too, ENDFILE there comes to what it means, as does a field that is no number, and meaning and
-- code have the same program
pub record KnowsReads (s : Scope) (k : Block) (most : ℕ) : Type 0 where
  pub program : k.around.program ≡ k.environment.program
  pub endfile :
      (words : ℕ) → MayBeSet s words → (place : EditPlace) (labels : List Label) (line : ℕ) →
      EndfileComes (within place (setting_around words k labels line most))
  pub error :
      (words : ℕ) → MayBeSet s words → (place : EditPlace) (labels : List Label) (line : ℕ) →
      ErrorComes ℤ (within place (setting_around words k labels line most))

-- raises in its statements come to what they mean, also where a unit goes on at a label of the block's own list
pub record KnowsRaises (s : Scope) (k : Block) (own : List Label) (most : ℕ) : Type 0 where
  pub overflow :
      s.overflows ≡ true → (words : ℕ) → MayBeSet s words → (labels : List Label) (line : ℕ) → Includes own labels →
      OverflowComes (setting_around words k labels line most)
  pub divisor :
      s.divides ≡ true → (words : ℕ) → MayBeSet s words → (labels : List Label) (line : ℕ) → Includes own labels →
      ZeroDivideComes (setting_around words k labels line most)
  pub subscript :
      s.elements ≡ true → (words : ℕ) → MayBeSet s words → (labels : List Label) (line : ℕ) → Includes own labels →
      SubscriptComes (setting_around words k labels line most)

-- the calls that its statements may hold do what they mean, whatever words are set aside; so many instructions come at
-- most between a call in an expression and the first act of what is called
pub record KnowsCalls (s : Scope) (k : Block) (own : List Label) (most left' : ℕ) : Type 0 where
  pub functions :
      (words : ℕ) → MayBeSet s words → (labels : List Label) (line level n : ℕ) → Includes own labels →
      s.is_function level n ≡ true → L.Does (setting_around words k labels line most) 0 (call_number level n)
  pub procedures :
      (words : ℕ) → MayBeSet s words → (labels : List Label) (level n line index : ℕ) → Includes own labels →
      s.is_procedure level n ≡ true → line < 2 ^ 31 →
      Linked k.call.surroundings.links k.call.code index
      (stmt_code k.environment (set_aside words) (call_statement level n line)) →
      DoesWith words k labels (call_statement level n line) index left'

-- so do those with a list of arguments, whatever waits in the words of the newest layer that are set aside, if each of
-- its arguments does; each variable may be passed by reference
pub record KnowsGivenCalls (s : Scope) (k : Block) (layer : Layer) (others : List Layer) (own : List Label)
    (most left' : ℕ) : Type 0
  where
    pub passable : (x : Spot) → is_known s x ≡ true → IsPassable k x
    pub functions :
        (words : ℕ) (waits : ℕ → Option ℕ) (labels : List Label) (line level n need : ℕ) (ways : List Way) →
        0 < length ways → AreStored k.first ways → Includes own labels → IsFree waits words →
        words + argument_words * length ways ≤ layer.words →
        s.is_given_function (length ways) level n ≡ true →
        GiveBehind (setting_around words k labels line most) words need waits layer others ways →
        L.Does (setting_around words (telling waits layer others k) labels line most) need (given_number level n ways)
    pub procedures :
        (words : ℕ) (waits : ℕ → Option ℕ) (labels : List Label) (level n line index need : ℕ) (ways : List Way) →
        0 < length ways → AreStored k.first ways → Includes own labels → IsFree waits words →
        words + argument_words * length ways ≤ layer.words →
        s.is_given_procedure (length ways) level n ≡ true → line < 2 ^ 31 → need ≤ k.registers →
        Linked k.call.surroundings.links k.call.code index
        (stmt_code k.environment (set_aside words) (given_statement level n line ways)) →
        GiveBehind (setting_around words k labels line most) words need waits layer others ways →
        DoesWith words (telling waits layer others k) labels (given_statement level n line ways) index left'

-- texts in its statements: constants are told, an ERROR by a service's status comes to what it means, and raises and
-- calls do what they mean while texts wait
pub record KnowsAroundTexts (s : Scope) (k : Block) (own : List Label) (most : ℕ) : Type 0 where
  pub constants : KnowsConstants k
  pub errors :
      (words : ℕ) → MayBeSet s words → (labels : List Label) (line : ℕ) → Includes own labels →
      KnowsErrors (setting_around words k labels line most)
  pub waits :
      (words : ℕ) → MayBeSet s words → (line : ℕ) (entries : List Entry) →
      KnowsWaiting s (setting_around words (waiting entries k) [] line most)

-- pointers are known, what is BASED is read and assigned by them, a member that is one is followed and linked, what is
-- BASED is allocated and freed, and areas are assigned, as all of these mean, where no words are set aside
pub record KnowsBased (s : Scope) (k : Block) (own : List Label) (most left' : ℕ) : Type 0 where
  pub pointers : (x : Spot) → is_pointer_known s x ≡ true → IsPointer k x
  pub reads :
      (labels : List Label) (line : ℕ) (p n : Spot) (m : ℕ) → Includes own labels → is_pointer_known s p ≡ true →
      is_member_known s is_word_type n m ≡ true →
      L.Does (setting_around 0 k labels line most) 0 (Y.NumberIn (member_of p n m))
  pub assigned :
      (labels : List Label) (p n : Spot) (m : ℕ) (source : Y.Number) (line index need : ℕ) → Includes own labels →
      is_pointer_known s p ≡ true → is_member_known s is_word_type n m ≡ true → line < 2 ^ 31 →
      need ≤ k.registers → 1 ≤ k.registers →
      Linked k.call.surroundings.links k.call.code index
      (stmt_code k.environment none_taken (M.assignment p n m source line)) →
      L.Does (setting_around 0 k labels line most) need source →
      Does k labels (M.assignment p n m source line) index left'
  pub followed :
      (labels : List Label) (x p n : Spot) (m line index : ℕ) → Includes own labels → is_pointer_known s x ≡ true →
      is_pointer_known s p ≡ true → is_member_known s is_pointer_type n m ≡ true → line < 2 ^ 31 →
      Linked k.call.surroundings.links k.call.code index
      (stmt_code k.environment none_taken (following x p n m line)) →
      Does k labels (following x p n m line) index left'
  -- the name waits in words of the newest layer
  pub linked :
      (labels : List Label) (p n : Spot) (m : ℕ) (y : Spot) (line index : ℕ) (layer : Layer) (others : List Layer) →
      Includes own labels → is_pointer_known s p ≡ true → is_member_known s is_pointer_type n m ≡ true →
      is_pointer_known s y ≡ true → line < 2 ^ 31 → k.first.control.layers ≡ layer ∷ others → 4 ≤ layer.words →
      Linked k.call.surroundings.links k.call.code index
      (stmt_code k.environment none_taken (linking p n m y line)) →
      Does k labels (linking p n m y line) index left'
  pub nulled :
      (labels : List Label) (p n : Spot) (m line index : ℕ) (layer : Layer) (others : List Layer) →
      Includes own labels → is_pointer_known s p ≡ true → is_member_known s is_pointer_type n m ≡ true →
      line < 2 ^ 31 → k.first.control.layers ≡ layer ∷ others → 4 ≤ layer.words →
      Linked k.call.surroundings.links k.call.code index
      (stmt_code k.environment none_taken (nulling p n m line)) →
      Does k labels (nulling p n m line) index left'
  pub allocated :
      (labels : List Label) (n p x : Spot) (line index : ℕ) → Includes own labels → is_pointer_known s p ≡ true →
      is_based_known s n ≡ true → is_area_known s x ≡ true → line < 2 ^ 31 →
      Linked k.call.surroundings.links k.call.code index
      (stmt_code k.environment none_taken (allocation n p x line)) →
      Does k labels (allocation n p x line) index left'
  pub freed :
      (labels : List Label) (p n : Spot) (line index : ℕ) → Includes own labels → is_pointer_known s p ≡ true →
      is_based_known s n ≡ true → line < 2 ^ 31 →
      Linked k.call.surroundings.links k.call.code index (stmt_code k.environment none_taken (freeing p n line)) →
      Does k labels (freeing p n line) index left'
  pub copied :
      (labels : List Label) (x y : Spot) (line index : ℕ) → Includes own labels → is_area_known s x ≡ true →
      is_area_known s y ≡ true → line < 2 ^ 31 →
      Linked k.call.surroundings.links k.call.code index (stmt_code k.environment none_taken (copying x y line)) →
      Does k labels (copying x y line) index left'
  pub emptied :
      (labels : List Label) (x : Spot) (line index : ℕ) → Includes own labels → is_area_known s x ≡ true →
      line < 2 ^ 31 →
      Linked k.call.surroundings.links k.call.code index (stmt_code k.environment none_taken (emptying x line)) →
      Does k labels (emptying x line) index left'

-- jumps out come to what they mean
abbrev pub KnowsJumps : Scope → Block → (own : List Label) → (left' : ℕ) → Type 0
KnowsJumps s k own left' =
    (labels : List Label) (level : ℕ) (label : Label) (line index : ℕ) → Includes own labels →
    s.is_outer level label ≡ true → line < 2 ^ 31 →
    Linked k.call.surroundings.links k.call.code index (stmt_code k.environment none_taken (Y.Goto level label line)) →
    Does k labels (Y.Goto level label line) index left'

-- and SIGNAL, be it that the unit goes on at a label of the block's own list
abbrev pub KnowsSignals : Scope → Block → (own : List Label) → (left' : ℕ) → Type 0
KnowsSignals s k own left' =
    (labels : List Label) (c : Condition) (line index : ℕ) → Includes own labels → s.signals c ≡ true →
    line < 2 ^ 31 →
    Linked k.call.surroundings.links k.call.code index (stmt_code k.environment none_taken (Y.Signal c line)) →
    Does k labels (Y.Signal c line) index left'

-- a begin block among the statements does what it means, if its statements are of the class, and they and those of the
-- begin blocks in it need no more registers than the block has
abbrev pub KnowsBegins : Scope → (valued : Bool) → Block → (own : List Label) → (left' : ℕ) → Type 0
KnowsBegins s valued k own left' =
    (labels : List Label) (head : Y.BlockHead) (body : Y.Stmts) (index : ℕ) → Includes own labels →
    s.is_begin head body ≡ true → are_statements (inside s head body) valued (labels_in body ++ []) body ≡ true →
    head.line < 2 ^ 31 → statements_need body ≤ k.registers → begins_need body ≤ k.registers →
    Standing k (Y.Begin (Y.BlockOf head body)) index →
    Does k labels (Y.Begin (Y.BlockOf head body)) index left'

-- a RETURN goes to the end of a procedure around it, whose begin blocks end
pub record GoesThrough (k : Block) (left' : ℕ) : Type 0 where
  pub through : Through
  pub is : IsThrough k through left'

-- in it a jump comes to a label, and a RETURN to the end: it is a procedure's or a function's own block, or a begin
-- block
pub record IsHome (s : Scope) (valued : Bool) (k : Block) (left' : ℕ) : Type 0 where
  pub level : k.environment.level ≡ s.level
  pub own : k.environment.level ≡ k.call.beginning.layer.level
  pub block : block_around k.environment k.environment.level ≡ k.environment.block
  pub returns : valued ≡ false → IsOwn k left' ⊎ GoesThrough k left'
  pub values : s.returns ≡ true → valued ≡ true → IsValued k left'

-- where loops count: the newest layer, in whose words nothing waits behind so many, and what is known whatever waits
-- there
pub record KnowsLoops (s : Scope) (valued : Bool) (k : Block) (own : List Label) (most left' : ℕ) : Type 0 where
  pub layer : Layer
  pub others : List Layer
  pub newest : k.first.control.layers ≡ layer ∷ others
  pub few : layer.words ≤ most_set
  pub behind : ℕ
  pub free : (n : ℕ) → behind ≤ n → layer.waits n ≡ None
  pub raises : (waits : ℕ → Option ℕ) → KnowsRaises s (telling waits layer others k) own most
  pub calls : (waits : ℕ → Option ℕ) → KnowsCalls s (telling waits layer others k) own most left'
  pub given : s.gives ≡ true → KnowsGivenCalls s k layer others own most left'
  pub jumps : (waits : ℕ → Option ℕ) → KnowsJumps s (telling waits layer others k) own left'
  pub texts : (waits : ℕ → Option ℕ) → s.texts ≡ true → KnowsAroundTexts s (telling waits layer others k) own most
  pub signals : (waits : ℕ → Option ℕ) → KnowsSignals s (telling waits layer others k) own left'
  pub reached :
      (waits : ℕ → Option ℕ) → s.locates ≡ true → (words : ℕ) → words ≤ most_set → (labels : List Label) (line : ℕ) →
      Includes own labels → KnowsReached s (setting_around words (telling waits layer others k) labels line most)
  -- there nothing that is BASED is written
  pub puts :
      (waits : ℕ → Option ℕ) → s.puts ≡ true → KnowsPuts (without_located s) (telling waits layer others k) most
  pub begins : (waits : ℕ → Option ℕ) → KnowsBegins s valued (telling waits layer others k) own left'
  pub reads : (waits : ℕ → Option ℕ) → s.reads ≡ true → KnowsReads s (telling waits layer others k) most

-- a block whose own list has these labels
pub record IsReady (s : Scope) (valued : Bool) (k : Block) (labels : List Label) (most left' : ℕ) : Type 0 where
  pub begun : IsBegun k
  -- there are turns enough for the acts that are left
  pub acts : k.call.surroundings.acts + 1 < 2 ^ 64
  pub turns : k.call.surroundings.acts < k.around.turns + k.first.state.world.acts
  pub held : k.registers ≤ held_registers
  pub raises : KnowsRaises s k labels most
  pub variables : (x : Spot) → is_known s x ≡ true → IsNumber k x
  pub arrays : s.elements ≡ true → (x : Spot) → is_array_known s x ≡ true → IsArray k x (grid_known s x)
  pub narrows : s.narrows ≡ true → (x : Spot) → is_narrow_known s x ≡ true → IsScalar k x (type_known s x)
  pub parameters : (x : Spot) → is_received s x ≡ true → IsParameterAround k x
  pub codes : s.codes ≡ true → HasCode k
  pub calls : KnowsCalls s k labels most left'
  pub based : s.locates ≡ true → KnowsBased s k labels most left'
  pub jumps : KnowsJumps s k labels left'
  pub begins : KnowsBegins s valued k labels left'
  pub texts : s.texts ≡ true → KnowsAroundTexts s k labels most
  pub signals : KnowsSignals s k labels left'
  pub puts : s.puts ≡ true → KnowsPuts s k most
  pub reads : s.reads ≡ true → KnowsReads s k most
  pub loops : s.counts ≡ true → KnowsLoops s valued k labels most left'
  -- an act pays for a statement and for what a call in it needs
  pub room : most ≤ length k.call.code + 2
  pub home : s.own ≡ true → IsHome s valued k left'

-- so many words of its frame are left for loops, behind so many that are set aside
abbrev pub HasFrame :
    {s : Scope} → {valued : Bool} → {k : Block} → {labels : List Label} → {most left' : ℕ} →
    IsReady s valued k labels most left' → (words count : ℕ) → Type 0
HasFrame {s} r words count =
    (c : s.counts ≡ true) → ((r.loops c).behind ≤ words) × (words + count ≤ (r.loops c).layer.words)
