use Rattle.std.proofs.Common.{◌≡◌, ℕ, length, arith}
use Rattle.base64.specs.GeneralPurpose.{encoded_size_of}
use Rattle.base64.specs.Engines.{standard}
use Rattle.armour_core.specs.LineLaws.{count_is, line_written}
use Rattle.armour_core.proofs.base64_groups.line_text.Goals as goal

pub returns-clause-text : goal.returns-clause-text
returns-clause-text c =
    let size : ℕ = encoded_size_of standard (length c.args.bytes.now) in
    let room : length c.args.text.now ≡ 77 = search c in
    line_written c.args.bytes.now c.args.text.now c.encode_slice.new.output c.in-Ok.count c.requires.some c.requires.few room c.in-Ok.ensures.written
    (count_is c.in-Ok.count size (length c.args.text.now) c.encode_slice.result c.encode_slice.ensures.fits (omega (arith, room, c.requires.few)) c.in-Ok.is)
