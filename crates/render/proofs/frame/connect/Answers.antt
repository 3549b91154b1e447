use mathlib.Core.List.{[], ◌∷◌}
use Rattle.text.specs.Bytes.{bytes}
use Rattle.at.specs.Event.{num, at as placed}
use Rattle.render.specs.Words.{number_word}
use Rattle.render.proofs.PrintLaws.{◌next◌}
use Rattle.render.proofs.FieldLaws.{prints-first, prints-more}
use Rattle.render.proofs.frame.connect.Goals as goal

-- `frame::connect` meets its contract. Assumes nothing.
pub returns : goal.returns
unfolding number_word
returns c =
    let start = c.args in
    let src = start.src.now in
    let kind = bytes " ConnectEventIPv4" in
    let protocol = num start.c.protocol in
    let remote-addr = placed start.c.remote_addr in
    let remote-port = num start.c.remote_port in
    let local-addr = placed start.c.local_addr in
    let local-port = num start.c.local_port in
    let channel = prints-first (bytes "ConnectEvent") src (num start.channel.0) c.word-at.ensures c.number_after-at.ensures in
    let one = prints-first kind src protocol c.word-at-2.ensures c.number_after-at-2.ensures in
    let two = prints-more kind src (protocol ∷ []) remote-addr one c.text_after-at.ensures in
    let three = prints-more kind src (protocol ∷ remote-addr ∷ []) remote-port two c.number_after-at-3.ensures in
    let four = prints-more kind src (protocol ∷ remote-addr ∷ remote-port ∷ []) local-addr three c.text_after-at-2.ensures in
    channel next prints-more kind src (protocol ∷ remote-addr ∷ remote-port ∷ local-addr ∷ []) local-port four c.number_after.ensures
