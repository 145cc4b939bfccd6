-- Jobs: a session hands a refresh to workers by SUBMIT.
use Rattle.std.specs.Prelude.{Ok, [], codes, refl, ◌∷◌, ◌≡◌}
use Rattle.def_rows.specs.Lines.{Checking, Ordering, Two, chars, digits, front_of, is_utf8, lines_text, next_record, output, strip_bom, tokens_of, utf8_valid_len}

-- In its own order a script has its jobs last, by the closer, which is worker 9. The line of a job stands under its SUBMIT.
pub closer_does_what_is_left :
    output (Ordering Two) (lines_text (
    codes "@setup"
    ∷ codes "CREATE TABLE T (G VARCHAR2(4), A NUMBER);"
    ∷ codes "INSERT INTO T VALUES ('P',1);"
    ∷ codes "CREATE MATERIALIZED VIEW V AS SELECT G, SUM(A), COUNT(A), COUNT(*) FROM T GROUP BY G;"
    ∷ codes "@workers 1"
    ∷ codes "@session 1"
    ∷ codes "SUBMIT EXECUTE DBMS_MVIEW.REFRESH('V', 'C');"
    ∷ codes "INSERT INTO T VALUES ('P',2);"
    ∷ codes "@end"
    ∷ []))
    ≡ Ok (lines_text (
    codes "mviewdb 2"
    ∷ codes "0.1 DONE SCN 1 READ 0"
    ∷ codes "0.2 COMMITTED SCN 2 ROWS 1 READ 0 VIEWS 0"
    ∷ codes "0.3 DONE SCN 2 READ 1"
    ∷ codes "1.1 SUBMITTED READ 0"
    ∷ codes "JOB 9 REFRESHED COMPLETE SCN 3 READ 2 HOLDS 1"
    ∷ codes "1.2 COMMITTED SCN 3 ROWS 1 READ 0 VIEWS 0"
    ∷ codes "journal 0.1.1 0.2.1 0.3.1 1.1.1 1.2.1 1.1.2@9 1.1.3@9"
    ∷ []))
unfolding digits utf8_valid_len is_utf8 chars lib.Utf8.encode tokens_of front_of
closer_does_what_is_left = refl

-- A worker may do the job before the session goes on; its image is that of its own begin.
pub worker_before_insert :
    output Checking (lines_text (
    codes "@setup"
    ∷ codes "CREATE TABLE T (G VARCHAR2(4), A NUMBER);"
    ∷ codes "INSERT INTO T VALUES ('P',1);"
    ∷ codes "CREATE MATERIALIZED VIEW V AS SELECT G, SUM(A), COUNT(A), COUNT(*) FROM T GROUP BY G;"
    ∷ codes "@workers 1"
    ∷ codes "@session 1"
    ∷ codes "SUBMIT EXECUTE DBMS_MVIEW.REFRESH('V', 'C');"
    ∷ codes "INSERT INTO T VALUES ('P',2);"
    ∷ codes "@end"
    ∷ codes "0.1 DONE SCN 1 READ 0"
    ∷ codes "0.2 COMMITTED SCN 2 ROWS 1 READ 0 VIEWS 0"
    ∷ codes "0.3 DONE SCN 2 READ 1"
    ∷ codes "1.1 SUBMITTED READ 0"
    ∷ codes "JOB 1 REFRESHED COMPLETE SCN 2 READ 1 HOLDS 1"
    ∷ codes "1.2 COMMITTED SCN 3 ROWS 1 READ 0 VIEWS 0"
    ∷ codes "journal 0.1.1 0.2.1 0.3.1 1.1.1 1.1.2@1 1.1.3@1 1.2.1"
    ∷ []))
    ≡ Ok (lines_text (codes "check ok" ∷ []))
unfolding digits utf8_valid_len is_utf8 chars lib.Utf8.encode tokens_of front_of next_record strip_bom
worker_before_insert = refl

-- Without @workers there is no worker but the closer.
pub no_such_worker :
    output Checking (lines_text (
    codes "@setup"
    ∷ codes "CREATE TABLE T (G VARCHAR2(4), A NUMBER);"
    ∷ codes "INSERT INTO T VALUES ('P',1);"
    ∷ codes "CREATE MATERIALIZED VIEW V AS SELECT G, SUM(A), COUNT(A), COUNT(*) FROM T GROUP BY G;"
    ∷ codes "@session 1"
    ∷ codes "SUBMIT EXECUTE DBMS_MVIEW.REFRESH('V', 'C');"
    ∷ codes "INSERT INTO T VALUES ('P',2);"
    ∷ codes "@end"
    ∷ codes "0.1 DONE SCN 1 READ 0"
    ∷ codes "0.2 COMMITTED SCN 2 ROWS 1 READ 0 VIEWS 0"
    ∷ codes "0.3 DONE SCN 2 READ 1"
    ∷ codes "1.1 SUBMITTED READ 0"
    ∷ codes "JOB 1 REFRESHED COMPLETE SCN 2 READ 1 HOLDS 1"
    ∷ codes "1.2 COMMITTED SCN 3 ROWS 1 READ 0 VIEWS 0"
    ∷ codes "journal 0.1.1 0.2.1 0.3.1 1.1.1 1.1.2@1 1.1.3@1 1.2.1"
    ∷ []))
    ≡ Ok (lines_text (codes "check no journal" ∷ []))
unfolding digits utf8_valid_len is_utf8 chars lib.Utf8.encode tokens_of front_of next_record strip_bom
no_such_worker = refl

-- An accepted SUBMIT has its job.
pub job_left_out :
    output Checking (lines_text (
    codes "@setup"
    ∷ codes "CREATE TABLE T (G VARCHAR2(4), A NUMBER);"
    ∷ codes "INSERT INTO T VALUES ('P',1);"
    ∷ codes "CREATE MATERIALIZED VIEW V AS SELECT G, SUM(A), COUNT(A), COUNT(*) FROM T GROUP BY G;"
    ∷ codes "@workers 1"
    ∷ codes "@session 1"
    ∷ codes "SUBMIT EXECUTE DBMS_MVIEW.REFRESH('V', 'C');"
    ∷ codes "INSERT INTO T VALUES ('P',2);"
    ∷ codes "@end"
    ∷ codes "journal 0.1.1 0.2.1 0.3.1 1.1.1 1.2.1"
    ∷ []))
    ≡ Ok (lines_text (codes "check no journal" ∷ []))
unfolding digits utf8_valid_len is_utf8 chars lib.Utf8.encode tokens_of front_of next_record strip_bom
job_left_out = refl

-- It has it once.
pub job_twice :
    output Checking (lines_text (
    codes "@setup"
    ∷ codes "CREATE TABLE T (G VARCHAR2(4), A NUMBER);"
    ∷ codes "INSERT INTO T VALUES ('P',1);"
    ∷ codes "CREATE MATERIALIZED VIEW V AS SELECT G, SUM(A), COUNT(A), COUNT(*) FROM T GROUP BY G;"
    ∷ codes "@workers 1"
    ∷ codes "@session 1"
    ∷ codes "SUBMIT EXECUTE DBMS_MVIEW.REFRESH('V', 'C');"
    ∷ codes "INSERT INTO T VALUES ('P',2);"
    ∷ codes "@end"
    ∷ codes "journal 0.1.1 0.2.1 0.3.1 1.1.1 1.1.2@1 1.1.3@1 1.2.1 1.1.2@9 1.1.3@9"
    ∷ []))
    ≡ Ok (lines_text (codes "check no journal" ∷ []))
unfolding digits utf8_valid_len is_utf8 chars lib.Utf8.encode tokens_of front_of next_record strip_bom
job_twice = refl

-- No job is begun before its SUBMIT.
pub job_before_submit :
    output Checking (lines_text (
    codes "@setup"
    ∷ codes "CREATE TABLE T (G VARCHAR2(4), A NUMBER);"
    ∷ codes "INSERT INTO T VALUES ('P',1);"
    ∷ codes "CREATE MATERIALIZED VIEW V AS SELECT G, SUM(A), COUNT(A), COUNT(*) FROM T GROUP BY G;"
    ∷ codes "@workers 1"
    ∷ codes "@session 1"
    ∷ codes "SUBMIT EXECUTE DBMS_MVIEW.REFRESH('V', 'C');"
    ∷ codes "INSERT INTO T VALUES ('P',2);"
    ∷ codes "@end"
    ∷ codes "journal 0.1.1 0.2.1 0.3.1 1.1.2@1 1.1.1 1.1.3@1 1.2.1"
    ∷ []))
    ≡ Ok (lines_text (codes "check no journal" ∷ []))
unfolding digits utf8_valid_len is_utf8 chars lib.Utf8.encode tokens_of front_of next_record strip_bom
job_before_submit = refl

-- One worker does the whole job.
pub two_workers :
    output Checking (lines_text (
    codes "@setup"
    ∷ codes "CREATE TABLE T (G VARCHAR2(4), A NUMBER);"
    ∷ codes "INSERT INTO T VALUES ('P',1);"
    ∷ codes "CREATE MATERIALIZED VIEW V AS SELECT G, SUM(A), COUNT(A), COUNT(*) FROM T GROUP BY G;"
    ∷ codes "@workers 1"
    ∷ codes "@session 1"
    ∷ codes "SUBMIT EXECUTE DBMS_MVIEW.REFRESH('V', 'C');"
    ∷ codes "INSERT INTO T VALUES ('P',2);"
    ∷ codes "@end"
    ∷ codes "journal 0.1.1 0.2.1 0.3.1 1.1.1 1.1.2@1 1.2.1 1.1.3@9"
    ∷ []))
    ≡ Ok (lines_text (codes "check no journal" ∷ []))
unfolding digits utf8_valid_len is_utf8 chars lib.Utf8.encode tokens_of front_of next_record strip_bom
two_workers = refl

-- What the closer does comes last.
pub closer_not_last :
    output Checking (lines_text (
    codes "@setup"
    ∷ codes "CREATE TABLE T (G VARCHAR2(4), A NUMBER);"
    ∷ codes "INSERT INTO T VALUES ('P',1);"
    ∷ codes "CREATE MATERIALIZED VIEW V AS SELECT G, SUM(A), COUNT(A), COUNT(*) FROM T GROUP BY G;"
    ∷ codes "@workers 1"
    ∷ codes "@session 1"
    ∷ codes "SUBMIT EXECUTE DBMS_MVIEW.REFRESH('V', 'C');"
    ∷ codes "INSERT INTO T VALUES ('P',2);"
    ∷ codes "@end"
    ∷ codes "journal 0.1.1 0.2.1 0.3.1 1.1.1 1.1.2@9 1.1.3@9 1.2.1"
    ∷ []))
    ≡ Ok (lines_text (codes "check no journal" ∷ []))
unfolding digits utf8_valid_len is_utf8 chars lib.Utf8.encode tokens_of front_of next_record strip_bom
closer_not_last = refl

-- A SUBMIT itself is not done by a worker.
pub submit_of_worker :
    output Checking (lines_text (
    codes "@setup"
    ∷ codes "CREATE TABLE T (G VARCHAR2(4), A NUMBER);"
    ∷ codes "INSERT INTO T VALUES ('P',1);"
    ∷ codes "CREATE MATERIALIZED VIEW V AS SELECT G, SUM(A), COUNT(A), COUNT(*) FROM T GROUP BY G;"
    ∷ codes "@workers 1"
    ∷ codes "@session 1"
    ∷ codes "SUBMIT EXECUTE DBMS_MVIEW.REFRESH('V', 'C');"
    ∷ codes "INSERT INTO T VALUES ('P',2);"
    ∷ codes "@end"
    ∷ codes "journal 0.1.1 0.2.1 0.3.1 1.1.1@1 1.1.2@1 1.1.3@1 1.2.1"
    ∷ []))
    ≡ Ok (lines_text (codes "check no journal" ∷ []))
unfolding digits utf8_valid_len is_utf8 chars lib.Utf8.encode tokens_of front_of next_record strip_bom
submit_of_worker = refl

-- A worker does one job after another.
pub one_job_at_a_time :
    output Checking (lines_text (
    codes "@setup"
    ∷ codes "CREATE TABLE T (G VARCHAR2(4), A NUMBER);"
    ∷ codes "INSERT INTO T VALUES ('P',1);"
    ∷ codes "CREATE MATERIALIZED VIEW V AS SELECT G, SUM(A), COUNT(A), COUNT(*) FROM T GROUP BY G;"
    ∷ codes "@workers 2"
    ∷ codes "@session 1"
    ∷ codes "SUBMIT EXECUTE DBMS_MVIEW.REFRESH('V', 'C');"
    ∷ codes "SUBMIT EXECUTE DBMS_MVIEW.REFRESH('V', 'F');"
    ∷ codes "@session 2"
    ∷ codes "SET TRANSACTION READ ONLY;"
    ∷ codes "SUBMIT EXEC DBMS_MVIEW.REFRESH('V');"
    ∷ codes "COMMIT;"
    ∷ codes "SUBMIT EXEC DBMS_MVIEW.REFRESH('X');"
    ∷ codes "SET TRANSACTION READ ONLY;"
    ∷ codes "@end"
    ∷ codes "journal 0.1.1 0.2.1 0.3.1 1.1.1 1.2.1 2.1.1 2.2.1 2.3.1 2.4.1 2.5.1 1.1.2@1 1.2.2@1 1.1.3@1 1.2.3@1 2.4.2@9 2.4.3@9"
    ∷ []))
    ≡ Ok (lines_text (codes "check no journal" ∷ []))
unfolding digits utf8_valid_len is_utf8 chars lib.Utf8.encode tokens_of front_of next_record strip_bom
one_job_at_a_time = refl

-- Two workers may refresh one view at once; the one that installs last is refused, as any session is.
pub two_at_once :
    output Checking (lines_text (
    codes "@setup"
    ∷ codes "CREATE TABLE T (G VARCHAR2(4), A NUMBER);"
    ∷ codes "INSERT INTO T VALUES ('P',1);"
    ∷ codes "CREATE MATERIALIZED VIEW V AS SELECT G, SUM(A), COUNT(A), COUNT(*) FROM T GROUP BY G;"
    ∷ codes "@workers 2"
    ∷ codes "@session 1"
    ∷ codes "INSERT INTO T VALUES ('P',2);"
    ∷ codes "SUBMIT EXECUTE DBMS_MVIEW.REFRESH('V', 'C');"
    ∷ codes "SUBMIT EXECUTE DBMS_MVIEW.REFRESH('V');"
    ∷ codes "@end"
    ∷ codes "0.1 DONE SCN 1 READ 0"
    ∷ codes "0.2 COMMITTED SCN 2 ROWS 1 READ 0 VIEWS 0"
    ∷ codes "0.3 DONE SCN 2 READ 1"
    ∷ codes "1.1 COMMITTED SCN 3 ROWS 1 READ 0 VIEWS 0"
    ∷ codes "1.2 SUBMITTED READ 0"
    ∷ codes "JOB 2 REFUSED MV-24 V 2 3 READ 2"
    ∷ codes "1.3 SUBMITTED READ 0"
    ∷ codes "JOB 1 REFRESHED COMPLETE SCN 3 READ 2 HOLDS 1"
    ∷ codes "journal 0.1.1 0.2.1 0.3.1 1.1.1 1.2.1 1.2.2@2 1.3.1 1.3.2@1 1.3.3@1 1.2.3@2"
    ∷ []))
    ≡ Ok (lines_text (codes "check ok" ∷ []))
unfolding digits utf8_valid_len is_utf8 chars lib.Utf8.encode tokens_of front_of next_record strip_bom
two_at_once = refl

-- A SUBMIT is refused where a READ ONLY image is open, and has no job then. The job of an accepted one doesn't ask what its session has open.
pub refused_submit :
    output (Ordering Two) (lines_text (
    codes "@setup"
    ∷ codes "CREATE TABLE T (G VARCHAR2(4), A NUMBER);"
    ∷ codes "INSERT INTO T VALUES ('P',1);"
    ∷ codes "CREATE MATERIALIZED VIEW V AS SELECT G, SUM(A), COUNT(A), COUNT(*) FROM T GROUP BY G;"
    ∷ codes "@workers 2"
    ∷ codes "@session 1"
    ∷ codes "SUBMIT EXECUTE DBMS_MVIEW.REFRESH('V', 'C');"
    ∷ codes "SUBMIT EXECUTE DBMS_MVIEW.REFRESH('V', 'F');"
    ∷ codes "@session 2"
    ∷ codes "SET TRANSACTION READ ONLY;"
    ∷ codes "SUBMIT EXEC DBMS_MVIEW.REFRESH('V');"
    ∷ codes "COMMIT;"
    ∷ codes "SUBMIT EXEC DBMS_MVIEW.REFRESH('X');"
    ∷ codes "SET TRANSACTION READ ONLY;"
    ∷ codes "@order 2 1 2 2 2"
    ∷ codes "@end"
    ∷ []))
    ≡ Ok (lines_text (
    codes "mviewdb 2"
    ∷ codes "0.1 DONE SCN 1 READ 0"
    ∷ codes "0.2 COMMITTED SCN 2 ROWS 1 READ 0 VIEWS 0"
    ∷ codes "0.3 DONE SCN 2 READ 1"
    ∷ codes "1.1 SUBMITTED READ 0"
    ∷ codes "JOB 9 REFRESHED COMPLETE SCN 2 READ 1 HOLDS 1"
    ∷ codes "1.2 SUBMITTED READ 0"
    ∷ codes "JOB 9 REFUSED MV-22 F3 T READ 0"
    ∷ codes "2.1 DONE SCN 2 READ 0"
    ∷ codes "2.2 REFUSED MV-29 READ 0"
    ∷ codes "2.3 DONE SCN 2 READ 0"
    ∷ codes "2.4 SUBMITTED READ 0"
    ∷ codes "JOB 9 REFUSED MV-02 X READ 0"
    ∷ codes "2.5 DONE SCN 2 READ 0"
    ∷ codes "journal 0.1.1 0.2.1 0.3.1 2.1.1 1.1.1 2.2.1 2.3.1 2.4.1 1.2.1 2.5.1 1.1.2@9 1.1.3@9 2.4.2@9 2.4.3@9 1.2.2@9 1.2.3@9"
    ∷ []))
unfolding digits utf8_valid_len is_utf8 chars lib.Utf8.encode tokens_of front_of
refused_submit = refl
