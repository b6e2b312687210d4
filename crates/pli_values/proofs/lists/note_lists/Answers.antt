use Rattle.std.proofs.Common.{◌≡◌, ◌≤◌, ◌<◌, ◌∙◌, ◌+◌, ◌-◌, ◌*◌, ap, arith, is_some, length, refl, rules, suc, sym}
use Rattle.std.proofs.lemmas.List.{length-set}
use Rattle.pli_serving.specs.InitialValues.{leaves_from}
use Rattle.pli_values.specs.Calls.{call_of}
use Rattle.pli_values.specs.Leaves.{leaves_of}
use Rattle.pli_values.proofs.LeafLists.{entry_is_data, leaves_even, list_cut, list_inside, list_within, list_whole, list_wrong, next_noted, none_named, still_some}
use Rattle.pli_values.proofs.lists.note_lists.Goals as goal

pub returns-then-not-is_data-2-clause-right : goal.returns-then-not-is_data-2-clause-right
returns-then-not-is_data-2-clause-right c =
    sym (list_cut (call_of c.args.source.now) (leaves_of c.args.leaves.now) c.args.at c.word_at-count.result (sym c.is_data.ensures ∙ c.if-not-is_data.false) c.word_at-count.ensures (sym c.is_data-2.ensures ∙ c.if-not-is_data-2.true))

pub loop-left-init : goal.loop-left-init
loop-left-init c =
    let count = c.word_at-count.result in
    let none : 0 ≡ count - count = omega arith in
    record {
      low = omega arith;
      even = c.requires.even;
      some = ap is_some c.requires.none;
      read = c.requires.none ∙ ap (λ n. leaves_from (call_of c.args.source.now) (leaves_of c.args.leaves.now) c.args.at n (c.args.at + 4 + 8 * count)) none;
    }

pub word_at-leaf-requires : goal.word_at-leaf-requires
word_at-leaf-requires c =
    let within : c.args.source.now.layout.end ≤ length c.args.source.now.memory.now = search rules in
    let all = list_within (call_of c.args.source.now).layout (c.args.at + 4) (8 * c.word_at-count.result) (sym c.is_data-2.ensures ∙ c.if-not-is_data-2.false) in
    omega (arith, within, all, c.loop-left.invariant.low, c.loop-left-test.true)

pub word_at-distance-requires : goal.word_at-distance-requires
word_at-distance-requires c =
    let within : c.args.source.now.layout.end ≤ length c.args.source.now.memory.now = search rules in
    let all = list_within (call_of c.args.source.now).layout (c.args.at + 4) (8 * c.word_at-count.result) (sym c.is_data-2.ensures ∙ c.if-not-is_data-2.false) in
    omega (arith, within, all, c.loop-left.invariant.low, c.loop-left-test.true)

pub returns-in_default-clause-right : goal.returns-in_default-clause-right
returns-in_default-clause-right c =
    let call = call_of c.args.source.now in
    let ls = leaves_of c.args.leaves.now in
    let left = c.loop-left.left - 1 in
    let count = c.word_at-count.result in
    let less : left < count = omega (arith, c.loop-left.invariant.low, c.loop-left-test.true) in
    sym
    (list_wrong call ls c.args.at count (sym c.is_data.ensures ∙ c.if-not-is_data.false) c.word_at-count.ensures
    (none_named call ls c.args.at (c.args.at + 4) count left (c.args.at + 4 + 8 * left) c.word_at-leaf.result c.word_at-distance.result less refl c.word_at-leaf.ensures c.word_at-distance.ensures (sym c.in_default.ensures.right)))

pub bounds-lists-leaf : goal.bounds-lists-leaf
bounds-lists-leaf c =
    let call = call_of c.args.source.now in
    let ls = leaves_of c.args.leaves.now in
    let inside = list_inside call ls c.word_at-leaf.result c.in-Some.list (ap is_some c.in-Some.ensures.list ∙ sym c.in-Some.ensures.right) in
    let even = leaves_even c.args.leaves.now in
    omega (arith, inside, even, c.loop-left.invariant.even)

pub loop-left-preserved : goal.loop-left-preserved
loop-left-preserved c =
    let call = call_of c.args.source.now in
    let ls = leaves_of c.args.leaves.now in
    let count = c.word_at-count.result in
    let old = c.loop-left.left in
    let left = old - 1 in
    let low = c.loop-left.invariant.low in
    let more = c.loop-left-test.true in
    let less : left < count = omega (arith, low, more) in
    let next : count - left ≡ suc (count - old) = omega (arith, low, more) in
    let behind : c.args.at + 4 + 8 * old ≡ c.args.at + 4 + 8 * left + 8 = omega (arith, more) in
    let entry = entry_is_data call.layout c.args.at count left (sym c.is_data-2.ensures ∙ c.if-not-is_data-2.false) less in
    record {
      low = omega (arith, low, more);
      even = length-set c.loop-left.lists c.word_at-leaf.result c.in-Some.list ∙ c.loop-left.invariant.even;
      some = still_some call ls c.args.at c.word_at-leaf.result c.word_at-distance.result c.loop-left.lists _ c.in-Some.list c.in-Some.ensures.list (sym c.in-Some.ensures.right) c.loop-left.invariant.some refl;
      read = next_noted call ls c.args.at (count - old) (count - left) (c.args.at + 4 + 8 * left) (c.args.at + 4 + 8 * old) c.word_at-leaf.result c.word_at-distance.result c.loop-left.lists _ c.in-Some.list entry c.word_at-leaf.ensures c.word_at-distance.ensures c.in-Some.ensures.list (sym c.in-Some.ensures.right) next behind c.loop-left.invariant.read c.loop-left.invariant.some refl;
    }

pub returns-clause-right : goal.returns-clause-right
returns-clause-right c =
    let none : c.loop-left.left ≡ 0 = omega (arith, c.loop-left-test.false) in
    sym c.loop-left.invariant.some
    ∙ ap is_some (list_whole (call_of c.args.source.now) (leaves_of c.args.leaves.now) c.args.at c.word_at-count.result c.loop-left.left _ (sym c.is_data.ensures ∙ c.if-not-is_data.false) c.word_at-count.ensures none c.loop-left.invariant.read)

pub returns-clause-lists : goal.returns-clause-lists
returns-clause-lists c =
    let none : c.loop-left.left ≡ 0 = omega (arith, c.loop-left-test.false) in
    λ t. list_whole (call_of c.args.source.now) (leaves_of c.args.leaves.now) c.args.at c.word_at-count.result c.loop-left.left _ (sym c.is_data.ensures ∙ c.if-not-is_data.false) c.word_at-count.ensures none c.loop-left.invariant.read
