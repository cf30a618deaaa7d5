-- The plain text of a file gives the file.
use Rattle.std.proofs.Common.{◌≡◌, ℕ, ◌<◌, ◌^◌, List, [], length, refl, ap, ◌∙◌, arith}
use Rattle.std.specs.Prelude.{All, Result, Ok, Err}
use Rattle.std.proofs.lemmas.List.Elements.{All-nil}
use Rattle.code_spec.specs.declared.fault.EndFault.{EndFault}
use Rattle.code_spec.specs.Code.{CodeData, IsCode}
use Rattle.code_spec.specs.Checked.{IsCheckedCode}
use Rattle.code_spec.specs.PlainText.{plain_text}
use Rattle.code_spec.specs.PlainReading.{marks_in, IsBlock, IsPlainFront, ReadsText, reads}
use Rattle.code_spec.proofs.ReadBack.{read_back}
use Rattle.code_spec.proofs.ReadingLaws.{front_one, reading_one}
use Rattle.block_codec.specs.TextDecoding.{EndsText, ended, refused_at_end}

-- an empty text has given nothing
pub nothing_gives_nothing : (c : CodeData) → IsCode c → IsPlainFront c [] []
nothing_gives_nothing c code = record {
  blocks = [];
  rest_symbols = [];
  cut = record { all = refl; below = All-nil (IsBlock c); part = omega (arith, code.p.0, code.q.0) };
  words = [];
  decoded = record { count = omega arith; each = λ at inside. absurd (omega (arith, inside)) };
  rest_bits = [];
  filled = record { all = refl; below = All-nil (λ byte. byte < 2 ^ 8); part = omega arith };
}

-- the bytes of a text that is read are its file
front_of_file : (c : CodeData) (text bytes file : List ℕ) → IsCheckedCode c → IsPlainFront c text bytes → ReadsText c text (Ok file) → bytes ≡ file
front_of_file c text bytes file checked front (reads clean count whole fits found is) = front_one c text bytes file checked front is

pub file_again : (c : CodeData) (file text bytes : List ℕ) → IsCheckedCode c → All (λ byte. byte < 2 ^ 8) file → marks_in text ≡ marks_in (plain_text c file)
    → IsPlainFront c text bytes → bytes ≡ file
file_again c file text bytes checked small same front = front_of_file c text bytes file checked front (read_back c file text checked small same)

abbrev length_of : List ℕ → Result (List ℕ) EndFault → ℕ
length_of other (Ok file) = length file
length_of other (Err fault) = length other

end_of_file : (c : CodeData) (text file : List ℕ) (result : Result ℕ EndFault) → IsCheckedCode c → ReadsText c text (Ok file) → EndsText c text result → result ≡ Ok (length file)
end_of_file c text file result checked read (ended found is count counted) =
    ap (λ n. Ok n) (counted ∙ ap (λ (r : Result (List ℕ) EndFault). length_of [] r) (reading_one c text (Ok found) (Ok file) checked is read))
end_of_file c text file result checked read (refused_at_end fault is) = absurd (ok_or_err file fault (reading_one c text (Ok file) (Err fault) checked read is))
  where
    ok_or_err : (file : List ℕ) (fault : EndFault) → Ok file ≡ Err fault → ⊥
    ok_or_err file fault same = absurd cc

pub end_again : (c : CodeData) (file text : List ℕ) (result : Result ℕ EndFault) → IsCheckedCode c → All (λ byte. byte < 2 ^ 8) file
    → marks_in text ≡ marks_in (plain_text c file) → EndsText c text result → result ≡ Ok (length file)
end_again c file text result checked small same ends = end_of_file c text file result checked (read_back c file text checked small same) ends
