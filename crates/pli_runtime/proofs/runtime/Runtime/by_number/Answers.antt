use Rattle.std.proofs.Common.{◌≡◌, false, [], refl, slice_index, sym, subst}
use Rattle.pli_meaning.specs.InputLines.{first_input}
use Rattle.pli_services.specs.Shown.{world_of}
use Rattle.pli_runtime.proofs.Asking.{control_asks, fixed_asks, kept_unread, kept_with, skip_asks, text_asks}
use Rattle.pli_runtime.proofs.Carried.{by_streams, by_taking}
use Rattle.pli_runtime.proofs.runtime.Runtime.by_number.Goals as goal

pub returns-in-35-clause-carried : goal.returns-in-35-clause-carried
returns-in-35-clause-carried g c = λ all agrees whole.
    rw c.in-35.is (by_streams _ _ _ _ _ _ _ _ c.requires.standing (λ c'. c.control.ensures.answers c' all agrees whole))

pub returns-in-35-clause-unread : goal.returns-in-35-clause-unread
returns-in-35-clause-unread g c = λ none.
    let mode = slice_index c.args.registers.now 11 in
    c.control.ensures.unread (control_asks _ mode (rw c.in-35.is at none))

pub returns-in-35-clause-kept : goal.returns-in-35-clause-kept
returns-in-35-clause-kept g c =
    let broken = g.I.InputStream.has_failed in
    let shown = world_of g.O.OutputStream.output in
    kept_with c.control.result
    (broken c.args.self.now.streams.input ≡ false → broken c.control.new.self.input ≡ false)
    (shown c.control.new.shown ≡ shown c.args.self.now.flow.shown)
    (c.args.memory.now ≡ c.args.memory.now) c.control.ensures.kept refl

pub returns-in-36-clause-carried : goal.returns-in-36-clause-carried
returns-in-36-clause-carried g c = λ all agrees whole.
    rw c.in-36.is (by_streams _ _ _ _ _ _ _ _ c.requires.standing (λ c'. c.fixed.ensures.answers c' all agrees whole))

pub returns-in-36-clause-unread : goal.returns-in-36-clause-unread
returns-in-36-clause-unread g c = λ none.
    let mode = slice_index c.args.registers.now 11 in
    c.fixed.ensures.unread (fixed_asks _ mode (rw c.in-36.is at none))

pub returns-in-36-clause-kept : goal.returns-in-36-clause-kept
returns-in-36-clause-kept g c =
    let broken = g.I.InputStream.has_failed in
    let shown = world_of g.O.OutputStream.output in
    kept_with c.fixed.result
    (broken c.args.self.now.streams.input ≡ false → broken c.fixed.new.self.input ≡ false)
    (shown c.fixed.new.shown ≡ shown c.args.self.now.flow.shown)
    (c.args.memory.now ≡ c.args.memory.now) c.fixed.ensures.kept refl

pub returns-in-37-clause-carried : goal.returns-in-37-clause-carried
returns-in-37-clause-carried g c = λ all agrees whole.
    rw c.in-37.is (by_taking _ _ _ _ _ _ _ _ _ c.requires.standing (λ c'. c.text.ensures.answers c' all agrees whole))

pub returns-in-37-clause-unread : goal.returns-in-37-clause-unread
returns-in-37-clause-unread g c = λ none.
    let mode = slice_index c.args.registers.now 11 in
    c.text.ensures.unread (text_asks _ mode (rw c.in-37.is at none))

pub returns-in-37-clause-kept : goal.returns-in-37-clause-kept
returns-in-37-clause-kept g c =
    let broken = g.I.InputStream.has_failed in
    let shown = world_of g.O.OutputStream.output in
    kept_with c.text.result
    (broken c.args.self.now.streams.input ≡ false → broken c.text.new.self.input ≡ false)
    (shown c.text.new.shown ≡ shown c.args.self.now.flow.shown)
    (c.args.memory.now ≡ c.args.memory.now) c.text.ensures.kept refl

pub returns-in-39-clause-carried : goal.returns-in-39-clause-carried
returns-in-39-clause-carried g c = λ all agrees whole.
    rw c.in-39.is (by_streams _ _ _ _ _ _ _ _ c.requires.standing (λ c'. c.skip.ensures.answers c' all agrees whole))

pub returns-in-39-clause-unread : goal.returns-in-39-clause-unread
returns-in-39-clause-unread g c = λ none.
    let mode = slice_index c.args.registers.now 11 in
    c.skip.ensures.unread (skip_asks _ mode (rw c.in-39.is at none))

pub returns-in-39-clause-kept : goal.returns-in-39-clause-kept
returns-in-39-clause-kept g c =
    let broken = g.I.InputStream.has_failed in
    let shown = world_of g.O.OutputStream.output in
    kept_with c.skip.result
    (broken c.args.self.now.streams.input ≡ false → broken c.skip.new.self.input ≡ false)
    (shown c.skip.new.shown ≡ shown c.args.self.now.flow.shown)
    (c.args.memory.now ≡ c.args.memory.now) c.skip.ensures.kept refl

pub returns-in_default-clause-carried : goal.returns-in_default-clause-carried
returns-in_default-clause-carried g c = λ all agrees whole.
    rw c.by_other.ensures.unread (c.by_other.ensures.carried (g.I.InputStream.input c.args.self.now.streams.input all))

pub returns-in_default-clause-standing : goal.returns-in_default-clause-standing
returns-in_default-clause-standing g c = (c.by_other.ensures.carried (first_input [])).standing

pub returns-in_default-clause-layout : goal.returns-in_default-clause-layout
returns-in_default-clause-layout g c = (c.by_other.ensures.carried (first_input [])).layout

pub returns-in_default-clause-follows : goal.returns-in_default-clause-follows
returns-in_default-clause-follows g c =
    subst (λ i. g.I.InputStream.follows c.args.self.now.streams.input i) (sym c.by_other.ensures.unread)
    (g.met.I.InputStream.stays c.args.self.now.streams.input)

pub returns-in_default-clause-kept : goal.returns-in_default-clause-kept
returns-in_default-clause-kept g c =
    kept_unread g.I.InputStream.has_failed _ _ _ _ _ _ _ _ _ c.by_other.ensures.unread
    (c.by_other.ensures.carried (first_input []))
