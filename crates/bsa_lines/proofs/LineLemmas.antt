-- What a line is by its bytes, and what each line that is read meets.
use Rattle.std.proofs.Common.{◌≡◌, ℕ, ◌*◌, ◌/◌, ◌<◌, ◌≤◌, ◌^◌, ◌∷◌, List, [], length, Bool, true, false, nat_le, ◌&&◌, cond, Option, None, Some, Result, Ok, Err, codes, refl, sym, ap, subst, ◌∙◌, arith}
use Rattle.std.proofs.lemmas.Bool.{and_parts, leb-true}
use Rattle.std.proofs.lemmas.Bool.Decides.{nat_tests}
use Rattle.std.proofs.lemmas.Option.{same_Some, cond_some, option_and_then_some}
use Rattle.std.specs.Prelude.{if◌then◌else◌}
use Rattle.std.specs.Option.{option_map, option_and_then, ok_or}
use Rattle.std.specs.Result.{result_ok}
use Rattle.hex.specs.declared.error.FromHexError.{FromHexError}
use Rattle.hex.specs.Hex.{decode_of}
use Rattle.hex.proofs.HexLemmas.{decode_of-ok}
use Rattle.onbar_grammar.specs.declared.Why.TheVariants.{Words}
use Rattle.onbar_grammar.specs.Numbers.{number, number_within}
use Rattle.onbar_grammar.specs.Script.{is_token}
use Rattle.onbar_grammar.specs.Parts.{parted_at}
use Rattle.onbar_grammar.proofs.DigitLemmas.{number_within-Some}
use Rattle.bsa_lines.specs.declared.settings.TextField.{TextField}
use Rattle.bsa_lines.specs.Operands.{wide_number, copy_id, sent_bytes, copy_type_word, object_type_word, status_word}
use Rattle.bsa_lines.specs.Lines.{Line, set_text, set_order, set_size, set_copy_type, set_object_type, set_status, clear_line, init_line, begin_line, create_line, send_line, end_data_line, query_line, next_line, get_line, data_line, delete_line, end_line, terminate_line, width_of, text_field, text_setting, setting_by, set_line_of, parted_line, keyword_line, bsa_line_of, IsLine}

-- ---- bytes

sent_bytes-Ok : (word : List ℕ) (read : Result (List ℕ) FromHexError) → decode_of word ≡ read → 4096 < length word / 2
    → option_and_then (λ bytes. cond (nat_le 1 (length bytes) && nat_le (length bytes) 4096) (Some bytes) None) (result_ok read) ≡ None
sent_bytes-Ok word (Ok bytes) is long =
    let twice : length word ≡ 2 * length bytes = (decode_of-ok word bytes is).2 in
    grind (arith, nat_tests)
sent_bytes-Ok word (Err e) is long = refl

pub sent_bytes-long : (word : List ℕ) → 4096 < length word / 2 → sent_bytes word ≡ None
sent_bytes-long word long = sent_bytes-Ok word (decode_of word) refl long

-- ---- a line by its bytes

bsa_line_of-cons : (bytes : List ℕ) → 0 < length bytes
    → bsa_line_of bytes ≡ ok_or (option_map (λ line. Some line) (keyword_line bytes)) Words
unfolding bsa_line_of
bsa_line_of-cons [] some = absurd (omega arith)
bsa_line_of-cons (c ∷ cs) some = refl

pub bsa_line_of-empty : (bytes : List ℕ) → length bytes ≡ 0 → bsa_line_of bytes ≡ Ok None
unfolding bsa_line_of
bsa_line_of-empty [] none = refl
bsa_line_of-empty (c ∷ cs) none = absurd (omega arith)

-- what the keyword and the rest of a line say
pub bsa_line_of-read : (bytes : List ℕ) (read : Option Line) → 0 < length bytes → read ≡ keyword_line bytes
    → ok_or (option_map (λ (line : Line). Some line) read) Words ≡ bsa_line_of bytes
bsa_line_of-read bytes read some is =
    ap (λ (read : Option Line). ok_or (option_map (λ (line : Line). Some line) read) Words) is ∙ sym (bsa_line_of-cons bytes some)

-- ---- the numbers and texts of a line

IsLine-map : {A : Type 0} (f : A → Line) (read : Option A) (line : Line) → ((x : A) → read ≡ Some x → IsLine (f x))
    → option_map f read ≡ Some line → IsLine line
IsLine-map f (Some x) line fits is = subst IsLine (same_Some (f x) line is) (fits x refl)
IsLine-map f None line fits is = cc is

wide_number-fits : (word : List ℕ) (n : ℕ) → wide_number word ≡ Some n → n < 2 ^ 64
wide_number-fits word n is =
    option_and_then_some (λ n. cond (nat_le n 18446744073709551615) (Some n) None) (number word) n is
    (λ x was within.
    let parts = cond_some (nat_le x 18446744073709551615) x n within in
    let le : x ≤ 18446744073709551615 = leb-true x 18446744073709551615 parts.0 in
    omega (arith, le, parts.1))

sent_bytes-fits : (word bytes : List ℕ) → sent_bytes word ≡ Some bytes → (1 ≤ length bytes) × (length bytes ≤ 4096)
sent_bytes-fits word bytes is =
    option_and_then_some (λ bytes. cond (nat_le 1 (length bytes) && nat_le (length bytes) 4096) (Some bytes) None) (result_ok (decode_of word)) bytes is
    (λ found was within.
    let parts = cond_some (nat_le 1 (length found) && nat_le (length found) 4096) found bytes within in
    let both = and_parts (nat_le 1 (length found)) (nat_le (length found) 4096) parts.0 in
    subst (λ (bytes : List ℕ). (1 ≤ length bytes) × (length bytes ≤ 4096)) parts.1
    (leb-true 1 (length found) both.0, leb-true (length found) 4096 both.1))

IsLine-text : (field : TextField) (value : List ℕ) (line : Line) → text_setting field value ≡ Some line → IsLine line
IsLine-text field value line is =
    let parts = cond_some (nat_le (length value) (width_of field)) (set_text field value) line is in
    subst IsLine parts.1 (leb-true (length value) (width_of field) parts.0)

IsLine-settings : (word : List ℕ) (line : Line) (order size copies objects statuses : Bool)
    → (if order then option_map set_order (wide_number word)
    else (if size then option_map set_size (wide_number word)
    else (if copies then option_map set_copy_type (copy_type_word word)
    else (if objects then option_map set_object_type (object_type_word word)
    else (if statuses then option_map set_status (status_word word) else None))))) ≡ Some line
    → IsLine line
IsLine-settings word line true size copies objects statuses is = IsLine-map set_order (wide_number word) line (λ n read. wide_number-fits word n read) is
IsLine-settings word line false true copies objects statuses is = IsLine-map set_size (wide_number word) line (λ n read. wide_number-fits word n read) is
IsLine-settings word line false false true objects statuses is = IsLine-map set_copy_type (copy_type_word word) line (λ kind read. tt) is
IsLine-settings word line false false false true statuses is = IsLine-map set_object_type (object_type_word word) line (λ kind read. tt) is
IsLine-settings word line false false false false true is = IsLine-map set_status (status_word word) line (λ kind read. tt) is
IsLine-settings word line false false false false false is = cc is

IsLine-set_by : (field : Option TextField) (name value : List ℕ) (line : Line) → setting_by field name value ≡ Some line → IsLine line
IsLine-set_by (Some field) name value line is = IsLine-text field value line is
IsLine-set_by None name value line is =
    IsLine-settings value line (is_token (codes "order") name) (is_token (codes "size") name) (is_token (codes "copytype") name)
    (is_token (codes "objecttype") name) (is_token (codes "status") name) is

IsLine-set_parts : (parts : Option (List ℕ × List ℕ)) (line : Line)
    → option_and_then (λ (parts : List ℕ × List ℕ). setting_by (text_field parts.0) parts.0 parts.1) parts ≡ Some line → IsLine line
IsLine-set_parts (Some parts) line is = IsLine-set_by (text_field parts.0) parts.0 parts.1 line is
IsLine-set_parts None line is = cc is

IsLine-operands : (rest : List ℕ) (line : Line) (sets inits sends gets datas deletes ends : Bool)
    → (if sets then set_line_of rest
    else (if inits then option_map init_line (number_within 0 16 rest)
    else (if sends then option_map send_line (sent_bytes rest)
    else (if gets then option_map get_line (copy_id rest)
    else (if datas then option_map data_line (number_within 1 4096 rest)
    else (if deletes then option_map delete_line (copy_id rest)
    else (if ends then option_map end_line (number_within 0 255 rest) else None))))))) ≡ Some line
    → IsLine line
IsLine-operands rest line true inits sends gets datas deletes ends is = IsLine-set_parts (parted_at 32 rest) line is
IsLine-operands rest line false true sends gets datas deletes ends is =
    IsLine-map init_line (number_within 0 16 rest) line (λ n read. (number_within-Some 0 16 rest n read).1) is
IsLine-operands rest line false false true gets datas deletes ends is =
    IsLine-map send_line (sent_bytes rest) line (λ bytes read. sent_bytes-fits rest bytes read) is
IsLine-operands rest line false false false true datas deletes ends is =
    IsLine-map get_line (copy_id rest) line (λ n read. number_within-Some 1 281474976710656 rest n read) is
IsLine-operands rest line false false false false true deletes ends is =
    IsLine-map data_line (number_within 1 4096 rest) line (λ n read. number_within-Some 1 4096 rest n read) is
IsLine-operands rest line false false false false false true ends is =
    IsLine-map delete_line (copy_id rest) line (λ n read. number_within-Some 1 281474976710656 rest n read) is
IsLine-operands rest line false false false false false false true is =
    IsLine-map end_line (number_within 0 255 rest) line (λ n read. (number_within-Some 0 255 rest n read).1) is
IsLine-operands rest line false false false false false false false is = cc is

same_None : {A : Type 0} (line : A) → None ≡ Some line → ⊥
same_None line is = cc is

IsLine-bare : (line : Line) (clears begins creates ends queries nexts terminates : Bool)
    → (if clears then Some clear_line
    else (if begins then Some begin_line
    else (if creates then Some create_line
    else (if ends then Some end_data_line
    else (if queries then Some query_line
    else (if nexts then Some next_line
    else (if terminates then Some terminate_line else None))))))) ≡ Some line
    → IsLine line
IsLine-bare line true begins creates ends queries nexts terminates is = subst IsLine (same_Some clear_line line is) tt
IsLine-bare line false true creates ends queries nexts terminates is = subst IsLine (same_Some begin_line line is) tt
IsLine-bare line false false true ends queries nexts terminates is = subst IsLine (same_Some create_line line is) tt
IsLine-bare line false false false true queries nexts terminates is = subst IsLine (same_Some end_data_line line is) tt
IsLine-bare line false false false false true nexts terminates is = subst IsLine (same_Some query_line line is) tt
IsLine-bare line false false false false false true terminates is = subst IsLine (same_Some next_line line is) tt
IsLine-bare line false false false false false false true is = subst IsLine (same_Some terminate_line line is) tt
IsLine-bare line false false false false false false false is = absurd (same_None line is)

IsLine-parted : (bytes : List ℕ) (parts : Option (List ℕ × List ℕ)) (line : Line) → parted_line bytes parts ≡ Some line → IsLine line
IsLine-parted bytes (Some parts) line is =
    IsLine-operands parts.1 line (is_token (codes "set") parts.0) (is_token (codes "init") parts.0) (is_token (codes "send") parts.0)
    (is_token (codes "get") parts.0) (is_token (codes "data") parts.0) (is_token (codes "delete") parts.0) (is_token (codes "end") parts.0) is
IsLine-parted bytes None line is =
    IsLine-bare line (is_token (codes "clear") bytes) (is_token (codes "begin") bytes) (is_token (codes "create") bytes)
    (is_token (codes "enddata") bytes) (is_token (codes "query") bytes) (is_token (codes "next") bytes) (is_token (codes "terminate") bytes) is

pub IsLine-keyword_line : (bytes : List ℕ) (line : Line) → keyword_line bytes ≡ Some line → IsLine line
IsLine-keyword_line bytes line is = IsLine-parted bytes (parted_at 32 bytes) line is
