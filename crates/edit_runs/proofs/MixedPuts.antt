-- PUT EDIT by any lists.
use Rattle.std.proofs.Common.{◌≡◌, ℕ, ◌≤◌, List, [], ◌∷◌, true, refl}
use Rattle.pli_meaning.specs.Control.{Label}
use Rattle.pli_serving.specs.ServiceState.{EditPlace}
use Rattle.pli_coding.specs.Streams.{has_text}
use Rattle.program_runs.specs.Statements.{Block, DoesWith}
use Rattle.expression_runs.specs.Assignments.{setting_around}
use Rattle.text_runs.specs.Texts.{ErrorComes}
use Rattle.std.specs.Prelude.{ℤ}
use Rattle.edit_runs.specs.Edits.{within}
use Rattle.edit_runs.specs.MixedEdits.{AllDo, AreMixed, HavePlaces, IsMixedPut, MixedDo, MixedList, MixedPut}
use Rattle.edit_runs.specs.MixedEdits.{NumberShown}
use Rattle.edit_runs.specs.MixedEdits.{Shown, TextShown, mixed_pairs, mixed_put, shown_item, shown_items}
use Rattle.edit_runs.proofs.Items.{ArePut, Puts, setting_in}
use Rattle.edit_runs.proofs.ListKinds.{formats_are}
use Rattle.edit_runs.proofs.NumberItems.{number_goes}
use Rattle.edit_runs.proofs.Puts.{AllGo, ListsGo, lists_do, puts_of}
use Rattle.edit_runs.proofs.TextItems.{text_goes}

all_go :
    (u : Puts) → ArePut u → 1 ≤ u.block.registers →
    ((place : EditPlace) → ErrorComes ℤ (within place (setting_in u))) → (xs : List Shown) →
    (has_text u.formats ≡ true → HavePlaces xs) → AllDo (setting_in u) u.need xs → AllGo u (shown_items xs)
all_go u a one error [] places does = tt
all_go u a one error (NumberShown x ∷ xs) places does = (
  number_goes u a one x (λ some. (places some).0) does.0,
  all_go u a one error xs (λ some. (places some).1) does.1,
)
all_go u a one error (TextShown x ∷ xs) places does =
    (text_goes u a (λ some. error) x does.0, all_go u a one error xs places does.1)

lists_go :
    (words : ℕ) (k : Block) (labels : List Label) (line need most : ℕ) → 1 ≤ k.registers →
    ((place : EditPlace) → ErrorComes ℤ (within place (setting_around words k labels line most))) →
    (xs : List MixedList) → AreMixed k xs → MixedDo (setting_around words k labels line most) need xs →
    ListsGo words k labels line need most (mixed_pairs xs)
lists_go words k labels line need most one error [] are does = tt
lists_go words k labels line need most one error (x ∷ xs) are does = (
  record {
    are = formats_are x.formats;
    some = are.0.some;
    knows = are.0.knows;
    item = shown_item x.first;
    items = shown_items x.more;
    shown = refl;
    go = λ first more a.
        all_go (puts_of words k labels x.formats line need most first more) a one error (x.first ∷ x.more)
        are.0.places does.0;
  },
  lists_go words k labels line need most one error xs are.1 does.1,
)

pub mixed_put_does :
    (words : ℕ) (k : Block) (labels : List Label) (x : MixedPut) (index left' need most : ℕ) →
    IsMixedPut words k labels x index need most →
    MixedDo (setting_around words k labels x.line most) need (x.first ∷ x.more) →
    DoesWith words k labels (mixed_put x) index left'
mixed_put_does words k labels x index left' need most is does =
    let all = lists_go words k labels x.line need most is.one is.shown (x.first ∷ x.more) is.lists does in
    lists_do words k labels x.skip _ (mixed_pairs x.more) x.line index left' need most is.act is.skip all
    (is.registers, is.held) is.narrow is.statement is.paid
