-- The service's answers, from the places on where the elements are known.
use Rattle.std.proofs.Common.{◌≡◌, ℕ, ℤ, true, false, List, map, Option, Some, None, Result, Ok, Err, refl, sym, ap, ◌∙◌}
use Rattle.std.specs.Prelude.{is_some, option_map, slice_get, unwrap_or}
use Rattle.std.proofs.lemmas.Option.{slice_get-map}
use Rattle.pli_typing.specs.Signatures.{Leaf, LeafKind}
use Rattle.pli_meaning.specs.Contents.{Shape}
use Rattle.pli_meaning.specs.Evaluating.{leaf_at}
use Rattle.pli_meaning.specs.StreamOrder.{Element, elements_inside}
use Rattle.pli_meaning.specs.Unreachable.{unreachable_leaf}
use Rattle.pli_serving.specs.Aggregates.{Aggregate}
use Rattle.pli_serving.specs.Answers.{Answer, Done, Bad}
use Rattle.pli_serving.specs.ElementService.{buffer_bytes, element_answered, element_found}
use Rattle.pli_serving.specs.Bytes.{is_data, with_bytes}
use Rattle.pli_serving.specs.Finding.{Call, named}
use Rattle.pli_serving.specs.Outcomes.{bad_unless, or_bad}
use Rattle.pli_answering.specs.Answering.{Answers, Replies}
use Rattle.pli_answering.specs.declared.reply.Reply.{Reply}
use Rattle.rv_meaning.specs.Memory.{bytes_of_words}
use Rattle.pli_serving.specs.Names.{kind_words}
use Rattle.pli_answering.specs.declared.reply.Refusal.{Refusal}
use Rattle.pli_answering.specs.declared.reply.Refusal.TheVariants as F
use Rattle.pli_signatures.specs.Whole.{leaf_in}
use Rattle.pli_elements.specs.Outcomes.{IsOutcome}
use Rattle.pli_elements.specs.declared.standing.Outcome.{Outcome}
use Rattle.pli_shapes.specs.Nests.{nest_in}
use Rattle.pli_shapes.specs.declared.part.Part.{Part}
use Rattle.pli_signatures.specs.View.{kind_of, leaf_in_force}
use Rattle.pli_signatures.specs.declared.element.ElementKind.{ElementKind}
use Rattle.pli_aggregates.specs.Records.{record_shown}
use Rattle.pli_aggregates.specs.declared.record.Aggregate.{Aggregate as AggregateHeld}
use Rattle.pli_elements.specs.Items.{IsItem, behind_leaf}
use Rattle.pli_elements.specs.declared.item.Item.{Item}

abbrev pub own_elements : List Part → Item → List Element
own_elements parts i = elements_inside (nest_in parts) 0 (map leaf_in_force i.leaves.items) i.given.items

-- ---- the element of a number

pub got_so : (elements : List Element) (parts : List Part) (i : Item) (number : ℕ) (o : Option Element) → IsItem (Some elements) parts i → o ≡ slice_get (own_elements parts i) number → slice_get elements number ≡ option_map (behind_leaf i.first) o
got_so elements parts i number o h e =
    ap (λ l. slice_get l number) (some h.are)
    ∙ slice_get-map (behind_leaf i.first) (own_elements parts i) number
    ∙ ap (option_map (behind_leaf i.first)) (sym e)
  where
    some : {X : Type 0} {x y : X} → Some x ≡ Some y → x ≡ y
    some e = cc

-- ---- an element

pub no_buffer : (c : Call) (x buffer : ℕ) (a : Aggregate) (e : Element) → is_data c.layout buffer 8 ≡ false → element_found c x a buffer e ≡ Bad
no_buffer c x buffer a e h =
    ap (λ b. bad_unless b (element_answered c x a e (with_bytes (buffer_bytes (leaf_at a.shape a.extent e.0).kind) buffer c.memory) (named c a.name a.signature))) h

pub found_so : (c : Call) (x buffer : ℕ) (a : Aggregate) (e : Element) (r : Answer) → is_data c.layout buffer 8 ≡ true → element_answered c x a e (with_bytes (buffer_bytes (leaf_at a.shape a.extent e.0).kind) buffer c.memory) (named c a.name a.signature) ≡ r
    → element_found c x a buffer e ≡ r
found_so c x buffer a e r h f =
    ap (λ b. bad_unless b (element_answered c x a e (with_bytes (buffer_bytes (leaf_at a.shape a.extent e.0).kind) buffer c.memory) (named c a.name a.signature))) h ∙ f

-- ---- the aggregate

pub whole_so : (f : Call → Aggregate → Answer) (old new : Call) (a : AggregateHeld) (o : Option Shape) (r : Result Reply Refusal) → is_some o ≡ true → ((s : Shape) → o ≡ Some s → Answers (λ c. f c (record_shown a s)) old r new)
    → Answers (λ c. or_bad (option_map (record_shown a) o) (f c)) old r new
whole_so f old new a None r e h = absurd (cc)
whole_so f old new a (Some s) r e h = h s refl

pub open_so : (a : AggregateHeld) (o : Option Shape) (f : Aggregate → Answer) → is_some o ≡ false → or_bad (option_map (record_shown a) o) f ≡ Bad
open_so a None f e = refl
open_so a (Some s) f e = absurd (cc)

-- ---- the kind of a leaf

pub kind_so : (s : Shape) (z : ℤ) (leaf : ℕ) (shape : Option Shape) (kind : ElementKind) → shape ≡ Some s → Some (kind_of kind) ≡ option_map (λ l. l.kind) (leaf_in shape leaf z) → (leaf_at s z leaf).kind ≡ kind_of kind
kind_so s z leaf shape kind e h = by_leaf (leaf_in (Some s) leaf z) (h ∙ ap (λ o. option_map (λ (l : Leaf). l.kind) (leaf_in o leaf z)) e)
  where
    by_leaf : (o : Option Leaf) → Some (kind_of kind) ≡ option_map (λ (l : Leaf). l.kind) o → (unwrap_or o unreachable_leaf).kind ≡ kind_of kind
    by_leaf None h = cc
    by_leaf (Some l) h = cc

-- ---- what is refused of an element

pub refused : (c : Call) (x buffer leaf : ℕ) (a : Aggregate) (is : List ℤ) (e : Refusal) → is_data c.layout buffer 8 ≡ true → IsOutcome c x a leaf is (named c a.name a.signature) (Err e) → Replies (element_found c x a buffer (leaf, is)) c.services c.memory (Err e) c.services c.memory
refused c x buffer leaf a is F.Bad h o =
    (found_so c x buffer a (leaf, is) Bad h (o (with_bytes (buffer_bytes (leaf_at a.shape a.extent leaf).kind) buffer c.memory)), refl, refl)
refused c x buffer leaf a is F.Memory h o = (refl, refl)

pub written_so : (c : Call) (x buffer leaf : ℕ) (a : Aggregate) (is : List ℤ) (kind : LeafKind) (o : Outcome) (words memory : List ℕ) → is_data c.layout buffer 8 ≡ true → (leaf_at a.shape a.extent leaf).kind ≡ kind → words ≡ kind_words kind → memory ≡ with_bytes (bytes_of_words words) buffer c.memory
    → IsOutcome c x a leaf is (named c a.name a.signature) (Ok o) → element_found c x a buffer (leaf, is) ≡ Done c.services memory o.register o.status
written_so c x buffer leaf a is kind o words memory h k w m r =
    let bytes : with_bytes (buffer_bytes (leaf_at a.shape a.extent leaf).kind) buffer c.memory ≡ memory =
    ap (λ (n : LeafKind). with_bytes (buffer_bytes n) buffer c.memory) k ∙ ap (λ ws. with_bytes (bytes_of_words ws) buffer c.memory) (sym w) ∙ sym m in
    found_so c x buffer a (leaf, is) (Done c.services memory o.register o.status) h
    (r (with_bytes (buffer_bytes (leaf_at a.shape a.extent leaf).kind) buffer c.memory) ∙ ap (λ n. Done c.services n o.register o.status) bytes)
