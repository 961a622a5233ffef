use Rattle.std.proofs.Common.{◌≡◌, ◌/◌, ◌%◌, arith}
use Rattle.b2_base.specs.Lexical.{hex_value, hex_digit}
use Rattle.b2_alpha.proofs.HexDigits.{hex_value-hex_digit}
use Rattle.b2_alpha.proofs.number.hex_text.Goals as goal

pub returns-clause-read_back : goal.returns-clause-read_back
returns-clause-read_back c =
    let high : hex_value (hex_digit (c.args.b / 16)) ≡ c.args.b / 16 = hex_value-hex_digit (c.args.b / 16) (omega arith) in
    let low : hex_value (hex_digit (c.args.b % 16)) ≡ c.args.b % 16 = hex_value-hex_digit (c.args.b % 16) (omega arith) in
    rw (c.hex_pair.ensures, high, low) (omega arith)
