-- Worked examples: what the definitions say of a few configurations.
use Rattle.std.proofs.Common.{◌≡◌, ℕ, List, [], ◌∷◌, ◌++◌, Err, Some, None, refl}
use Rattle.std.specs.Prelude.{codes}
use Rattle.std.specs.Fmt.{digits}
use Rattle.kd_creds.specs.Numbers.{digits_value, digits_number}
use Rattle.kd_name.specs.BusNames.{bus_name_fault}
use Rattle.kd_creds.specs.Lines.{listen_line}
use Rattle.kd_creds.specs.Listen.{said_with, read_lines, listen_of}

abbrev bus : List ℕ
bus = codes "bus 0-system 0 64 8" ++ 10 ∷ []

one_word_less : listen_of (codes "socket /run/a 1000 1000 plain") ≡ Err 0
unfolding listen_of read_lines said_with listen_line digits_number digits_value bus_name_fault digits
one_word_less = refl

no_socket : listen_of bus ≡ Err 20
unfolding listen_of read_lines said_with listen_line digits_number digits_value bus_name_fault digits
no_socket = refl

leading_zeros : digits_number (codes "0000000007") ≡ Some 7
unfolding digits_number digits_value
leading_zeros = refl

eleven_digits : digits_number (codes "00000000007") ≡ None
unfolding digits_number digits_value
eleven_digits = refl
