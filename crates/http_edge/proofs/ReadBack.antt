-- What was written is read.
use Rattle.std.proofs.Common.{◌≡◌, ℕ, ◌<◌, ◌≤◌, List, [], ◌∷◌, ◌++◌, length, take, map, codes, true, false, ◌==◌, refl, sym, ◌∙◌, ap, subst, arith, inl, append_assoc, append-nil, length-append, lit<, lit≤, if◌then◌else◌, nat_lt, IsTrue, not, ◌||◌, reverse}
use Rattle.std.specs.Prelude.{Some, None, Result, Ok, Err}
use Rattle.std.specs.List.{list_all, list_any, find, All}
use Rattle.std.specs.Fmt.{decimal, digits}
use Rattle.std.specs.Char.{is_ascii_digit}
use Rattle.std.specs.Str.{IsAscii}
use Rattle.std.specs.Str.Parse.{AllDigits, IsNumeral, digits_value}
use Rattle.std.proofs.Math.Seq.{take-append_seam, drop-append_seam}
use Rattle.std.proofs.lemmas.Bool.{le-ltb, and_from, and_parts, ltb-true, lt-ltb, le-leb, ne_eqb}
use Rattle.std.proofs.lemmas.List.Elements.{All-head, All-cons, All-nil}
use Rattle.std.proofs.lemmas.List.Sums.{AllPass-from_list_all}
use Rattle.std.proofs.lemmas.Cmp.{nat_list_eq_equiv}
use Rattle.std.proofs.lemmas.Fmt.{decimal_is_IsNumeral, length-decimal-le}
use Rattle.std.proofs.lemmas.Str.{IsUtf8-from_ascii}
use Rattle.std.proofs.lemmas.Str.Ascii.{IsAscii-nil, IsAscii-cons}
use Rattle.std.proofs.lemmas.Str.Parse.{digit_from_value}
use Rattle.httparse.specs.Grammar.{crlf, Field, IsField, AllPass, is_token_byte, is_uri_byte, is_value_byte, print_request, print_response, trim_ows, skip_ows, RequestHead, IsRequestHead, ResponseHead, IsResponseHead}
use Rattle.httparse.specs.Spans.{name_and_value}
use Rattle.httparse.proofs.TrimLemmas.{trim_ows_space, AllPass-reverse}
use Rattle.http_edge.specs.Fields.{HeaderField, longest_body, body_length, stated_length, is_coding, is_length, is_named, is_number, within_limit, length_in, agrees}
use Rattle.http_edge.specs.Requests.{RequestSays, is_post, is_command_path}
use Rattle.http_edge.specs.Replies.{ReplySays}
use Rattle.http_edge.specs.Messages.{IsAnswer}
use Rattle.http_edge.specs.Written.{header_lines, status_line, request_line, reason_phrase}
use Rattle.http_edge.specs.Laws.{WrittenRequestsAreRead, WrittenRepliesAreRead}
use Rattle.http_edge.specs.declared.fault.EdgeFault.{EdgeFault}
use Rattle.http_edge.specs.declared.fault.EdgeFault.TheVariants.{Encoded, TooBig, Ended}
use Rattle.http_edge.proofs.OwnHeads.{own_head, is_quiet, last_lines, either}
use Rattle.http_edge.proofs.Numbers.{digit_in_range}

-- the header fields of a message whose length is written so
abbrev type_field : Field
type_field = record { name = codes "Content-Type"; raw = codes " application/octet-stream"; end = crlf }

abbrev length_field : List ℕ → Field
length_field text = record { name = codes "Content-Length"; raw = 32 ∷ text; end = crlf }

abbrev connection_field : Field
connection_field = record { name = codes "Connection"; raw = codes " close"; end = crlf }

abbrev fields_with : List ℕ → List Field
fields_with text = type_field ∷ length_field text ∷ connection_field ∷ []

-- the header field of the host
abbrev host : Field
host = record { name = codes "Host"; raw = codes " localhost"; end = crlf }

-- digits are a number where they are ten at most
number_from_digits : (ds : List ℕ) → IsNumeral 10 ds → length ds ≤ 10 → is_number ds ≡ true
number_from_digits ds numeral short =
    and_from _ _ (and_from _ _ (lt-ltb 0 (length ds) numeral.0) (le-leb (length ds) 10 short)) (all_digits ds numeral.1)
  where
    all_digits : (ds : List ℕ) → AllDigits 10 ds → list_all is_ascii_digit ds ≡ true
    all_digits [] digits = refl
    all_digits (d ∷ ds) (digit, digits) =
        let range = digit_from_value d digit in
        and_from _ _ (and_from _ _ (le-leb 48 d range.0) (le-leb d 57 range.1)) (all_digits ds digits)

-- fields of which none says that the body is coded, and the only length is a number within the limit
length_says : (fields : List HeaderField) (name text : List ℕ) (count : ℕ) → list_any is_coding fields ≡ false
    → find is_length fields ≡ Some (name, text) → list_all (agrees text) fields ≡ true → is_number text ≡ true
    → digits_value 10 text ≡ count → count ≤ longest_body → body_length fields ≡ Ok count
unfolding body_length stated_length
length_says fields name text count plain first same number value fits =
    ap (λ b. if b then Err Encoded else within_limit (length_in (find is_length fields) fields)) plain
    ∙ ap (λ found. within_limit (length_in found fields)) first
    ∙ ap (λ b. within_limit (if b then Some (digits_value 10 text) else None)) (and_from _ _ number same)
    ∙ ap (λ n. within_limit (Some n)) value
    ∙ ap (λ b. if b then Err (TooBig count) else Ok count) (le-ltb longest_body count fits)

-- the text of a length within the limit
abbrev IsText : ℕ → List ℕ → Type 0
IsText count text = (trim_ows (32 ∷ text) ≡ text) × (is_number text ≡ true) × (digits_value 10 text ≡ count)

-- what the fields of a request and of a reply say
request_fields_say : (text : List ℕ) (count : ℕ) → IsText count text → count ≤ longest_body
    → body_length (map name_and_value (host ∷ fields_with text)) ≡ Ok count
unfolding is_coding is_length is_named
request_fields_say text count (trimmed, number, value) fits =
    let of_trimmed : List ℕ = trim_ows (32 ∷ text) in
    length_says (map name_and_value (host ∷ fields_with text)) (codes "Content-Length") (trim_ows (32 ∷ text)) count
    refl refl (and_from _ _ (nat_list_eq_equiv.refl (trim_ows (32 ∷ text))) refl)
    (ap is_number trimmed ∙ number) (ap (digits_value 10) trimmed ∙ value) fits

reply_fields_say : (text : List ℕ) (count : ℕ) → IsText count text → count ≤ longest_body
    → body_length (map name_and_value (fields_with text)) ≡ Ok count
unfolding is_coding is_length is_named
reply_fields_say text count (trimmed, number, value) fits =
    length_says (map name_and_value (fields_with text)) (codes "Content-Length") (trim_ows (32 ∷ text)) count
    refl refl (and_from _ _ (nat_list_eq_equiv.refl (trim_ows (32 ∷ text))) refl)
    (ap is_number trimmed ∙ number) (ap (digits_value 10) trimmed ∙ value) fits

-- digits have no white space at their ends
skip_digits : (ds : List ℕ) → AllPass is_ascii_digit ds → skip_ows ds ≡ ds
skip_digits [] pass = refl
skip_digits (d ∷ ds) pass =
    let range = digit_in_range d (All-head (λ b. IsTrue (is_ascii_digit b)) d ds pass) in
    let not_space : (d == 32 || d == 9) ≡ false =
    ap (λ b. b || d == 9) (ne_eqb d 32 (λ same. omega (arith, same, range.0))) ∙ ne_eqb d 9 (λ same. omega (arith, same, range.0)) in
    ap (λ b. if b then skip_ows ds else d ∷ ds) not_space

text_trimmed : (ds : List ℕ) → list_all is_ascii_digit ds ≡ true → trim_ows (32 ∷ ds) ≡ ds
text_trimmed ds pass =
    let all = AllPass-from_list_all is_ascii_digit ds pass in
    trim_ows_space ds (skip_digits ds all) (skip_digits (reverse ds) (AllPass-reverse is_ascii_digit ds all))

-- a length is written in so few digits
few_digits : (count : ℕ) → count ≤ longest_body → length (decimal count) ≤ 10
few_digits count fits = length-decimal-le 10 count (lit< tt) (omega (arith, fits)) (omega (arith, fits))

is_numeral : (count : ℕ) → count ≤ longest_body → IsNumeral 10 (decimal count) × (digits_value 10 (decimal count) ≡ count)
is_numeral count fits = decimal_is_IsNumeral count (omega (arith, fits))

is_text : (count : ℕ) → count ≤ longest_body → IsText count (decimal count)
is_text count fits =
    let numeral = is_numeral count fits in
    let number = number_from_digits (decimal count) numeral.0 (few_digits count fits) in
    (text_trimmed (decimal count) (and_parts _ _ number).1, number, numeral.1)

-- a field of these bytes is one of the grammar
valid_field : (name raw : List ℕ) → 0 < length name → list_all is_token_byte name ≡ true → list_all is_value_byte raw ≡ true
    → IsField (record { name = name; raw = raw; end = crlf })
valid_field name raw some token value = record {
  name = (some, AllPass-from_list_all is_token_byte name token);
  raw = AllPass-from_list_all is_value_byte raw value;
}

digit_values : (ds : List ℕ) → AllDigits 10 ds → list_all is_value_byte ds ≡ true
digit_values [] digits = refl
digit_values (d ∷ ds) (digit, digits) =
    let range = digit_from_value d digit in
    and_from _ _ (either _ _ (and_from _ _ (le-leb 32 d (omega (arith, range.0))) (ap not (ne_eqb d 127 (λ same. omega (arith, same, range.1))))))
    (digit_values ds digits)

valid_fields : (text : List ℕ) → AllDigits 10 text → All IsField (fields_with text)
unfolding is_token_byte
valid_fields text digits =
    All-cons IsField type_field (length_field text ∷ connection_field ∷ [])
    (valid_field (codes "Content-Type") (codes " application/octet-stream") (lit< tt) refl refl)
    (All-cons IsField (length_field text) (connection_field ∷ []) (valid_field (codes "Content-Length") (32 ∷ text) (lit< tt) refl (digit_values text digits))
    (All-cons IsField connection_field [] (valid_field (codes "Connection") (codes " close") (lit< tt) refl refl) (All-nil IsField)))

-- bytes below 128 are ASCII
all_ascii : (bs : List ℕ) → list_all (λ b. nat_lt b 128) bs ≡ true → IsAscii bs
all_ascii [] below = IsAscii-nil
all_ascii (b ∷ bs) below =
    let both = and_parts (nat_lt b 128) (list_all (λ b. nat_lt b 128) bs) below in
    IsAscii-cons b bs (ltb-true b 128 both.0) (all_ascii bs both.1)

-- the head of a request with a length of these digits
abbrev request_head : List ℕ → RequestHead
request_head text = record {
  blank = [];
  method = codes "POST";
  target = codes "/command/";
  minor = 1;
  line_end = crlf;
  fields = host ∷ fields_with text;
  last = crlf;
}

-- its lines before the length
abbrev request_lines : List ℕ
request_lines = codes "POST /command/ HTTP/1.1\r\nHost: localhost\r\nContent-Type: application/octet-stream\r\nContent-Length: "

-- the lines behind the length, as the grammar prints them
behind_length : (text : List ℕ)
    → text ++ last_lines ≡ (((text ++ codes "\r\n") ++ codes "Connection: close\r\n") ++ codes "\r\n") ++ []
behind_length text =
    sym (append-nil _ ∙ append_assoc (text ++ codes "\r\n") (codes "Connection: close\r\n") (codes "\r\n")
    ∙ append_assoc text (codes "\r\n") (codes "Connection: close\r\n\r\n"))

request_printed : (text : List ℕ) → request_lines ++ (text ++ last_lines) ≡ print_request (request_head text) ++ []
unfolding print_request
request_printed text = ap (λ tail. request_lines ++ tail) (behind_length text)

is_request_head : (text : List ℕ) → AllDigits 10 text → IsRequestHead (request_head text)
unfolding is_token_byte
is_request_head text are_digits = record {
  method = (lit< tt, AllPass-from_list_all is_token_byte (codes "POST") refl);
  target = (lit< tt, AllPass-from_list_all is_uri_byte (codes "/command/") refl);
  target_text = IsUtf8-from_ascii (codes "/command/") (all_ascii (codes "/command/") refl);
  minor = lit≤ tt;
  fields = All-cons IsField host (fields_with text) (valid_field (codes "Host") (codes " localhost") (lit< tt) refl refl) (valid_fields text are_digits);
}

-- what the lines of a request with such a length say
request_lines_say : (count : ℕ) → count ≤ longest_body → RequestSays (request_lines ++ (decimal count ++ last_lines)) (Ok count)
unfolding is_post is_command_path
request_lines_say count fits =
    let text = decimal count in
    let digits = (is_numeral count fits).0.1 in
    inl (
      request_head text,
      record { reads = (is_request_head text digits, request_printed text); fields = lit≤ tt },
      sym (request_fields_say text count (is_text count fits) fits),
    )

-- the head of a reply whose code is 200
abbrev reply_head : List ℕ → ResponseHead
reply_head text = record {
  blank = [];
  minor = 1;
  digits = codes "200";
  reason = Some (codes "OK");
  line_end = crlf;
  fields = fields_with text;
  last = crlf;
}

-- its lines before the length
abbrev reply_lines : List ℕ
reply_lines = codes "HTTP/1.1 200 OK\r\nContent-Type: application/octet-stream\r\nContent-Length: "

reply_printed : (text : List ℕ) → reply_lines ++ (text ++ last_lines) ≡ print_response (reply_head text) ++ []
unfolding print_response
reply_printed text = ap (λ tail. reply_lines ++ tail) (behind_length text)

is_response_head : (text : List ℕ) → AllDigits 10 text → IsResponseHead (reply_head text)
is_response_head text digits = record {
  minor = lit≤ tt;
  digits = (refl, AllPass-from_list_all is_ascii_digit (codes "200") refl);
  reason = AllPass-from_list_all is_value_byte (codes "OK") refl;
  fields = valid_fields text digits;
}

-- what the lines of a reply with such a length say
reply_lines_say : (count : ℕ) → count ≤ longest_body → ReplySays (reply_lines ++ (decimal count ++ last_lines)) (Ok count)
reply_lines_say count fits =
    let text = decimal count in
    let digits = (is_numeral count fits).0.1 in
    inl (
      reply_head text,
      record { reads = (is_response_head text digits, reply_printed text); fields = lit≤ tt },
      sym (reply_fields_say text count (is_text count fits) fits),
    )

-- a head that says so, and its body, are read whatever follows
read_back : (Says : List ℕ → Result ℕ EdgeFault → Type 0) (lines body rest : List ℕ) → length body ≤ longest_body
    → length lines ≤ 1000
    → is_quiet (lines ++ (decimal (length body) ++ last_lines)) ≡ is_quiet (decimal (length body) ++ last_lines)
    → Says (lines ++ (decimal (length body) ++ last_lines)) (Ok (length body))
    → IsAnswer Says (((lines ++ (decimal (length body) ++ last_lines)) ++ body) ++ rest) (Ok body) rest
read_back Says lines body rest fits short quiet says =
    let count = length body in
    let text = decimal count in
    let few = few_digits count fits in
    inl record {
      head = lines ++ (text ++ last_lines);
      behind = body ++ rest;
      parts = append_assoc (lines ++ (text ++ last_lines)) body rest;
      ends = own_head lines text quiet (is_numeral count fits).0.1;
      fits = omega (arith, length-append lines (text ++ last_lines), length-append text last_lines, short, few);
      promise = Ok count;
      says = says;
      answer_is = sym (ap (λ b. if b then Err (Ended (length (body ++ rest)) count) else Ok (take count (body ++ rest)))
          (le-ltb (length (body ++ rest)) count (omega (arith, length-append body rest)))
          ∙ ap Ok (take-append_seam body rest));
      rest_is = sym (drop-append_seam body rest);
    }

pub requests_are_read_back : WrittenRequestsAreRead
unfolding request_line header_lines
requests_are_read_back body rest fits =
    read_back RequestSays request_lines body rest fits (lit≤ tt) refl (request_lines_say (length body) fits)

-- the status line of a reply with a body
ok_line : status_line 200 ≡ codes "HTTP/1.1 200 OK\r\n"
unfolding status_line digits reason_phrase
ok_line = refl

replies_in_lines : (body rest : List ℕ) → length body ≤ longest_body
    → IsAnswer ReplySays (((codes "HTTP/1.1 200 OK\r\n" ++ header_lines (length body)) ++ body) ++ rest) (Ok body) rest
unfolding header_lines
replies_in_lines body rest fits =
    read_back ReplySays reply_lines body rest fits (lit≤ tt) refl (reply_lines_say (length body) fits)

pub replies_are_read_back : WrittenRepliesAreRead
replies_are_read_back body rest fits =
    subst (λ line. IsAnswer ReplySays (((line ++ header_lines (length body)) ++ body) ++ rest) (Ok body) rest) (sym ok_line)
    (replies_in_lines body rest fits)
