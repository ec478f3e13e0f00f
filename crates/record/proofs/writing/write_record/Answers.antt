use Rattle.record.specs.RoomLaws.{size_none, size_some, size_longest, size_small, no_cache, no_room}
use Rattle.record.specs.PutLaws.{put_whole}
use Rattle.record_model.specs.Record.{box}
use Rattle.method_cache.proofs.WordLaws.{held_few}
use Rattle.state.specs.Whole.{state_of}
use lib.ListN.{length}
use native.Mathlib.Omega.{arith}
use mathlib.Core.Path.{◌≡◌, sym, ◌∙◌}
use borrow.Author.Rules.{rules}
use Rattle.record.proofs.writing.write_record.Goals as goal

pub returns-then-room-eq0 : goal.returns-then-room-eq0
returns-then-room-eq0 c =
    let a = c.args in
    let w = length a.cache.now in
    let p = box (state_of a.state) a.cache.now a.counts in
    no_cache p a.out.now (size_none w (sym c.longest-room.ensures ∙ c.if-room-eq0.true))

pub returns-then-out-room : goal.returns-then-out-room
returns-then-out-room c =
    let a = c.args in
    let w = length a.cache.now in
    let p = box (state_of a.state) a.cache.now a.counts in
    let size = size_some w (λ e. c.if-room-eq0.false (c.longest-room.ensures ∙ e)) in
    no_room p a.out.now size (omega (arith, c.if-out-room.true, c.longest-room.ensures, size_longest w size))

pub put_record-requires : goal.put_record-requires
put_record-requires c =
    let a = c.args in
    let w = length a.cache.now in
    size_small w (size_some w (λ e. c.if-room-eq0.false (c.longest-room.ensures ∙ e)))

pub returns : goal.returns
unfolding state_of
returns c =
    let a = c.args in
    let w = length a.cache.now in
    let p = box (state_of a.state) a.cache.now a.counts in
    let registers : length a.state.registers ≡ 32 = search rules in
    let long : length a.state.held ≡ 17 = search (rules, c.well_formed.0.1.1.1.1.1.1.1.1) in
    let size = size_some w (λ e. c.if-room-eq0.false (c.longest-room.ensures ∙ e)) in
    put_whole p a.out.now c.put_record.new.out c.put_record.result c.put_record.ensures registers (held_few a.state.held long) size
    (omega (arith, c.if-out-room.false, c.longest-room.ensures, size_longest w size))
