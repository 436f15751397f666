use Rattle.text_kit.proofs.Lemmas.{on_ok}
use Rattle.fault_texts.proofs.Telling.{told}
use Rattle.fault_texts.proofs.message.put_fault.Goals as goal

pub returns : goal.returns
returns c = on_ok c.put_note.result (λ q. told c.args.text.now c.args.name.now c.args.bytes.now c.args.at c.args.sentence.wrong.now c.args.sentence.help.now
    c.place_of-place.result.line c.place_of-place.result.column c.window_of-window.result.from c.window_of-window.result.to
    c.put_place.new.text c.put_wrong.new.text c.put_here.new.text c.put_note.new.text
    c.place_of-place.ensures c.window_of-window.ensures c.in_ok-put_place.ensures c.in_ok-put_wrong.ensures c.in_ok-put_here.ensures q) c.put_note.ensures
