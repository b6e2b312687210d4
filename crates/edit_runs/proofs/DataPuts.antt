-- PUT EDIT of numbers by F, and with data lists of several kinds.
use Rattle.std.proofs.Common.{◌≡◌, ℕ, ◌≤◌, List, [], ◌∷◌, true, false, refl, sym, ◌∙◌}
use Rattle.pli_language.specs.Tree as T
use Rattle.pli_typing.specs.TypedTree as Y
use Rattle.pli_meaning.specs.Control.{Label}
use Rattle.pli_meaning.specs.Streaming.{ControlFormat, DataFormat, FixedItem, FormatItem, TextItem, format_items}
use Rattle.pli_coding.specs.Streams.{has_fixed, has_text}
use Rattle.program_runs.specs.Statements.{Block, DoesWith}
use Rattle.expression_runs.specs.Assignments.{setting_around}
use Rattle.edit_runs.specs.Edits.{AreFixed, AreItems, AreListed, IsFixed, IsPut, Item, ItemsDo, Kinds, KnowsFormats}
use Rattle.edit_runs.specs.Edits.{Pair}
use Rattle.edit_runs.specs.Edits.{PairsDo, Put, kinds_of, put_items, put_of, put_pairs, texts_only}
use Rattle.edit_runs.specs.TextEdits.{AreLists, DataList, DataPut, HavePrecisions, IsDataPut, IsList, IsTextual}
use Rattle.edit_runs.specs.TextEdits.{ListDoes}
use Rattle.edit_runs.specs.TextEdits.{ListsDo, NumberList, ShownList, TextList, TextsDo, data_put, list_pair}
use Rattle.edit_runs.specs.TextEdits.{list_pairs}
use Rattle.edit_runs.specs.TextEdits.{text_items}
use Rattle.edit_runs.proofs.Items.{ArePut, Puts, setting_in}
use Rattle.edit_runs.proofs.NumberItems.{number_goes, put_item}
use Rattle.edit_runs.proofs.Puts.{AllGo, ListGoes, ListsGo, lists_do, puts_of}
use Rattle.edit_runs.proofs.TextItems.{text_goes, text_item}

-- ---- format lists of one kind

all_fixed : (kinds : Kinds) (xs : List FormatItem) → kinds.fixed ≡ true → AreFixed xs → AreItems kinds xs
all_fixed kinds [] some are = tt
all_fixed kinds (DataFormat (FixedItem width) ∷ xs) some are = (some, all_fixed kinds xs some are)
all_fixed kinds (DataFormat (TextItem width) ∷ xs) some are = absurd are
all_fixed kinds (ControlFormat item ∷ xs) some are = all_fixed kinds xs some are

all_textual :
    (kinds : Kinds) (xs : List FormatItem) → kinds.text ≡ true → AreItems texts_only xs → AreItems kinds xs
all_textual kinds [] some are = tt
all_textual kinds (DataFormat (FixedItem width) ∷ xs) some are = absurd (cc are.0)
all_textual kinds (DataFormat (TextItem width) ∷ xs) some are = (some, all_textual kinds xs some are.1)
all_textual kinds (ControlFormat item ∷ xs) some are = all_textual kinds xs some are

-- ---- numbers by F

numbers_go :
    (u : Puts) → has_text u.formats ≡ false → ArePut u → 1 ≤ u.block.registers → (xs : List Item) →
    ItemsDo (setting_in u) u.need xs → AllGo u (put_items xs)
numbers_go u none a one [] does = tt
numbers_go u none a one (x ∷ xs) does =
    (number_goes u a one x (λ some. absurd (cc (sym none ∙ some))) does.0, numbers_go u none a one xs does.1)

number_list :
    (words : ℕ) (k : Block) (labels : List Label) (line need most : ℕ) (x : Pair) → IsFixed x.formats →
    KnowsFormats k x.formats → 1 ≤ k.registers →
    ItemsDo (setting_around words k labels line most) need (x.first ∷ x.more) →
    ListGoes words k labels line need most (record { items = put_items (x.first ∷ x.more); formats = x.formats })
number_list words k labels line need most x is knows one does =
    record {
      are = all_fixed (kinds_of x.formats) (format_items x.formats) is.fixed is.are;
      some = is.some;
      knows = knows;
      item = put_item x.first;
      items = put_items x.more;
      shown = refl;
      go = λ first more a.
          numbers_go (puts_of words k labels x.formats line need most first more) is.text a one (x.first ∷ x.more) does;
    }

number_lists :
    (words : ℕ) (k : Block) (labels : List Label) (line need most : ℕ) (xs : List Pair) → AreListed k xs →
    1 ≤ k.registers → PairsDo (setting_around words k labels line most) need xs →
    ListsGo words k labels line need most (put_pairs xs)
number_lists words k labels line need most [] known one does = tt
number_lists words k labels line need most (x ∷ xs) known one does = (
  number_list words k labels line need most x known.0.0 known.0.1 one does.0,
  number_lists words k labels line need most xs known.1 one does.1,
)

pub put_does :
    (words : ℕ) (k : Block) (labels : List Label) (x : Put) (index left' need most : ℕ) →
    IsPut words k labels x index need most →
    PairsDo (setting_around words k labels x.line most) need (x.first ∷ x.more) →
    DoesWith words k labels (put_of x) index left'
put_does words k labels x index left' need most is does =
    let pair : Pair → Y.PutPair = λ y. record { items = put_items (y.first ∷ y.more); formats = y.formats } in
    lists_do words k labels x.skip (pair x.first) (put_pairs x.more) x.line index left' need most is.act is.skip
    (number_lists words k labels x.line need most (x.first ∷ x.more) is.lists is.one does)
    (is.registers, is.held) is.error is.statement is.paid

-- ---- numbers and texts by A

all_go :
    (u : Puts) → ArePut u → 1 ≤ u.block.registers → (xs : List Item) → HavePrecisions xs →
    ItemsDo (setting_in u) u.need xs → AllGo u (put_items xs)
all_go u a one [] have does = tt
all_go u a one (x ∷ xs) have does = (number_goes u a one x (λ some. have.0) does.0, all_go u a one xs have.1 does.1)

shown_list :
    (words : ℕ) (k : Block) (labels : List Label) (line need most : ℕ) (x : Pair) → IsTextual x.formats →
    KnowsFormats k x.formats → 1 ≤ k.registers → HavePrecisions (x.first ∷ x.more) →
    ItemsDo (setting_around words k labels line most) need (x.first ∷ x.more) →
    ListGoes words k labels line need most (record { items = put_items (x.first ∷ x.more); formats = x.formats })
shown_list words k labels line need most x is knows one have does =
    record {
      are = all_textual (kinds_of x.formats) (format_items x.formats) is.text is.are;
      some = is.some;
      knows = knows;
      item = put_item x.first;
      items = put_items x.more;
      shown = refl;
      go = λ first more a.
          all_go (puts_of words k labels x.formats line need most first more) a one (x.first ∷ x.more) have does;
    }

texts_go :
    (u : Puts) → has_fixed u.formats ≡ false → ArePut u → (xs : List Y.Text) → TextsDo (setting_in u) u.need xs →
    AllGo u (text_items xs)
texts_go u none a [] does = tt
texts_go u none a (x ∷ xs) does =
    (text_goes u a (λ some. absurd (cc (sym none ∙ some))) x does.0, texts_go u none a xs does.1)

text_list :
    (words : ℕ) (k : Block) (labels : List Label) (line need most : ℕ) (first : Y.Text) (more : List Y.Text)
    (formats : T.Formats) → IsTextual formats → KnowsFormats k formats →
    TextsDo (setting_around words k labels line most) need (first ∷ more) →
    ListGoes words k labels line need most (record { items = text_items (first ∷ more); formats = formats })
text_list words k labels line need most first more formats is knows does =
    record {
      are = all_textual (kinds_of formats) (format_items formats) is.text is.are;
      some = is.some;
      knows = knows;
      item = text_item first;
      items = text_items more;
      shown = refl;
      go = λ first' more' a.
          texts_go (puts_of words k labels formats line need most first' more') is.fixed a (first ∷ more) does;
    }

-- ---- of several kinds

list_goes :
    (words : ℕ) (k : Block) (labels : List Label) (line need most : ℕ) (x : DataList) → IsList k x →
    1 ≤ k.registers → ListDoes (setting_around words k labels line most) need x →
    ListGoes words k labels line need most (list_pair x)
list_goes words k labels line need most (NumberList x) is one does =
    number_list words k labels line need most x is.0 is.1 one does
list_goes words k labels line need most (ShownList x) is one does =
    shown_list words k labels line need most x is.0 is.1 one is.2 does
list_goes words k labels line need most (TextList first more formats) is one does =
    text_list words k labels line need most first more formats is.0 is.1 does

lists_go :
    (words : ℕ) (k : Block) (labels : List Label) (line need most : ℕ) (xs : List DataList) → AreLists k xs →
    1 ≤ k.registers → ListsDo (setting_around words k labels line most) need xs →
    ListsGo words k labels line need most (list_pairs xs)
lists_go words k labels line need most [] are one does = tt
lists_go words k labels line need most (x ∷ xs) are one does = (
  list_goes words k labels line need most x are.0 one does.0,
  lists_go words k labels line need most xs are.1 one does.1,
)

pub data_put_does :
    (words : ℕ) (k : Block) (labels : List Label) (x : DataPut) (index left' need most : ℕ) →
    IsDataPut words k labels x index need most →
    ListsDo (setting_around words k labels x.line most) need (x.first ∷ x.more) →
    DoesWith words k labels (data_put x) index left'
data_put_does words k labels x index left' need most is does =
    lists_do words k labels x.skip (list_pair x.first) (list_pairs x.more) x.line index left' need most is.act is.skip
    (lists_go words k labels x.line need most (x.first ∷ x.more) is.lists is.one does)
    (is.registers, is.held) is.error is.statement is.paid
