-- The messages that are written (RFC 9112, sections 2 to 6).
use Rattle.std.specs.Prelude.{◌≡◌, ℕ, ◌⊎◌, List, [], ◌++◌, length, Bool, true, ◌||◌, ◌==◌, codes, if◌then◌else◌, Option}
use Rattle.std.specs.Fmt.{decimal}
use Rattle.outer_edge.specs.Source.{Grew}

-- the reason phrase of a status code (RFC 9110, section 15)
unfoldable pub reason_phrase : ℕ → List ℕ
reason_phrase code =
    if code == 200 then codes "OK"
    else if code == 400 then codes "Bad Request"
    else if code == 404 then codes "Not Found"
    else if code == 405 then codes "Method Not Allowed"
    else if code == 411 then codes "Length Required"
    else if code == 413 then codes "Content Too Large"
    else codes "Unsupported Media Type"

-- the status code is one that replies have
abbrev pub is_reply_code : ℕ → Bool
is_reply_code code = code == 200 || code == 400 || code == 404 || code == 405 || code == 411 || code == 413 || code == 415

-- a reply with this status code has this body: it is empty for another code than 200
pub record IsReplyWith (code : ℕ) (body : List ℕ) : Type 0 where
  pub known : is_reply_code code ≡ true
  pub content : (code ≡ 200) ⊎ (body ≡ [])

-- the header lines of a message whose body has this length, and the empty line behind them
unfoldable pub header_lines : ℕ → List ℕ
header_lines count =
    codes "Content-Type: application/octet-stream\r\nContent-Length: " ++ decimal count ++ codes "\r\nConnection: close\r\n\r\n"

-- the status line
unfoldable pub status_line : ℕ → List ℕ
status_line code = codes "HTTP/1.1 " ++ decimal code ++ codes " " ++ reason_phrase code ++ codes "\r\n"

-- a message: its first line, and maybe others, the header lines, and the body
abbrev pub message : List ℕ → List ℕ → List ℕ
message first body = first ++ header_lines (length body) ++ body

-- a reply
abbrev pub reply_bytes : ℕ → List ℕ → List ℕ
reply_bytes code body = message (status_line code) body

-- the request line, and the line of the host
unfoldable pub request_line : List ℕ
request_line = codes "POST /command/ HTTP/1.1\r\nHost: localhost\r\n"

-- a request
abbrev pub request_bytes : List ℕ → List ℕ
request_bytes body = message request_line body

-- a front of the bytes was taken, and nothing else
pub record TookFront (before now : Option (List ℕ)) (bytes : List ℕ) : Type 0 where
  pub piece : List ℕ
  pub rest : List ℕ
  pub parts : bytes ≡ piece ++ rest
  pub took : Grew before now piece
