-- What lies in the bytes of a connection.
use Rattle.std.specs.Prelude.{map}
use Rattle.httparse.specs.Spans.{header_bytes}
use Rattle.http_stream.specs.declared.request.Asked.{Asked}
use Rattle.http_stream.specs.declared.request.Given.{Given}
use Rattle.http_stream.specs.declared.request.Given.TheVariants as given
use Rattle.http_stream.specs.declared.request.Next.{Next}
use Rattle.http_stream.specs.declared.request.Next.TheVariants as next
use Rattle.http_stream.specs.declared.request.Request.{Request}

-- the request that lies there
abbrev pub request_in : Asked → Request
request_in a = record {
  method = a.method.now;
  path = a.path.now;
  headers = map (header_bytes a.front.now) a.headers.now;
  body = a.body.now;
}

-- what is given
abbrev pub next_in : Given → Next
next_in (given.Request a) = next.Request (request_in a)
next_in given.None = next.None
next_in (given.Bad why) = next.Bad why
